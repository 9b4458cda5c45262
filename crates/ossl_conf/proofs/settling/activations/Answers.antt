use Rattle.std.proofs.Common.{◌≡◌, ℕ, ◌+◌, Option, Vec, Result, Ok, Err, List, [], ◌∷◌, ◌++◌, ap, sym, ◌∙◌, append-nil}
use Rattle.std.specs.declared.alloc.Global.{Global}
use Rattle.std.specs.Option.{option_to_list}
use Rattle.smallvec.specs.SmallVec.{SmallVec}
use Rattle.ossl_conf.specs.declared.refusal.ConfRefused.{ConfRefused}
use Rattle.ossl_conf.specs.Kept.{all_sections}
use Rattle.ossl_conf.specs.Places.{entries_at}
use Rattle.ossl_conf.specs.Rows.{names_of, of_section, rows_of}
use Rattle.ossl_conf.specs.Settings.{activation, activations}
use Rattle.ossl_conf.proofs.AnswerLaws.{handed, refusal_from}
use Rattle.ossl_conf.proofs.RowLaws.{entries_at-rows}
use Rattle.ossl_conf.proofs.SettleLaws.{activations-begun, more_row, other_row, refused_row, whole_from}
use Rattle.ossl_conf.proofs.settling.activations.Goals as goal
use Rattle.ossl_conf.proofs.settling.activations.Goals.{then-section-at+in_ok-name+in-Some-2+in_ok-push, then-section-at+in_ok-name+in_default-2, else-section-at}

pub loop-index-init : goal.loop-index-init
loop-index-init c =
    let sections = c.args.sections.now in
    let rows = rows_of sections.values.entries in
    let listed : of_section c.args.at rows ≡ entries_at (all_sections sections) c.args.at = sym (entries_at-rows c.args.at (names_of sections.names.keys) rows sections.placed) in
    rw c.new-names.ensures.items (activations-begun (activations (all_sections sections) (of_section c.args.at rows)) ∙ ap (activations (all_sections sections)) listed)

pub returns-in_err-name : goal.returns-in_err-name
returns-in_err-name c =
    let all = all_sections c.args.sections.now in
    let refusal = c.in_err-name.field-0.0 in
    let key : ℕ × SmallVec ℕ = c.in-Some.field-0-0.now in
    let value : List ℕ = c.in-Some.value.now in
    let name : c.as_slice.result.now ≡ key.1.items = c.as_slice.ensures in
    let same : c.args.at ≡ key.0 = sym c.if-section-at.true in
    let args : ◌≡◌ {A = List ℕ × List ℕ} (key.1.items, value) (c.as_slice.result.now, c.as_slice-then-section-at.result.now) = λ i. (sym name i, sym c.as_slice-then-section-at.ensures.bytes i) in
    rw (handed c.from_residual.result refusal c.from_residual.ensures)
    (refusal_from refusal
    (λ (given : Result (List (List ℕ)) ConfRefused). activation all (c.as_slice.result.now, c.as_slice-then-section-at.result.now) ≡ given)
    (λ (given : Result (List (List ℕ)) ConfRefused). activations all (entries_at all c.args.at) ≡ given)
    (λ e. sym c.loop-index.invariant ∙ refused_row all c.args.at c.args.sections.now.values.entries c.loop-index.index key value (sym c.in-Some.ensures.entry) c.loop-index.names.items same refusal (ap (activation all) args ∙ e))
    c.in_err-name.ensures)

pub loop-index-preserved : goal.loop-index-preserved
loop-index-preserved c =
    let all = all_sections c.args.sections.now in
    let rows = c.args.sections.now.values.entries in
    let index = c.loop-index.index in
    let names = c.loop-index.names.items in
    let key : ℕ × SmallVec ℕ = c.in-Some.field-0-0.now in
    let value : List ℕ = c.in-Some.value.now in
    elim c.if-section-at.branch [
      | then-section-at+in_ok-name+in-Some-2+in_ok-push w ↦
          let name : w.as_slice.result.now ≡ key.1.items = w.as_slice.ensures in
          let same : c.args.at ≡ key.0 = sym w.if-section-at.true in
          let args : ◌≡◌ {A = List ℕ × List ℕ} (key.1.items, value) (w.as_slice.result.now, w.as_slice-then-section-at.result.now) = λ i. (sym name i, sym w.as_slice-then-section-at.ensures.bytes i) in
          let first : List (List ℕ) = w.in-Some-2.name ∷ [] in
          let final : c.if-section-at.names.items ≡ names ++ first = ap (λ (names : Vec (List ℕ) Global). names.items) w.names-is ∙ w.in_ok-push.ensures.items in
          ap (whole_from all c.args.at rows (index + 1)) final
          ∙ sym (more_row all c.args.at rows index key value (sym c.in-Some.ensures.entry) names same first
          (ap (activation all) args ∙ w.in_ok-name.ensures ∙ ap (λ (o : Option (List ℕ)). Ok (option_to_list o)) w.in-Some-2.is))
          ∙ c.loop-index.invariant
      | then-section-at+in_ok-name+in_default-2 w ↦
          let name : w.as_slice.result.now ≡ key.1.items = w.as_slice.ensures in
          let same : c.args.at ≡ key.0 = sym w.if-section-at.true in
          let args : ◌≡◌ {A = List ℕ × List ℕ} (key.1.items, value) (w.as_slice.result.now, w.as_slice-then-section-at.result.now) = λ i. (sym name i, sym w.as_slice-then-section-at.ensures.bytes i) in
          let final : c.if-section-at.names.items ≡ names ++ [] = ap (λ (names : Vec (List ℕ) Global). names.items) w.names-is ∙ sym (append-nil names) in
          ap (whole_from all c.args.at rows (index + 1)) final
          ∙ sym (more_row all c.args.at rows index key value (sym c.in-Some.ensures.entry) names same []
          (ap (activation all) args ∙ w.in_ok-name.ensures ∙ ap (λ (o : Option (List ℕ)). Ok (option_to_list o)) w.in_default-2.is))
          ∙ c.loop-index.invariant
      | else-section-at w ↦
          ap (λ (names : Vec (List ℕ) Global). whole_from all c.args.at rows (index + 1) names.items) w.names-is
          ∙ sym (other_row all c.args.at rows index key value (sym c.in-Some.ensures.entry) names (λ e. w.if-section-at.false (sym e)))
          ∙ c.loop-index.invariant
    ]
