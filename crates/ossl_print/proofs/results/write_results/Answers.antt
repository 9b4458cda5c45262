use Rattle.std.proofs.Common.{◌≡◌, ℕ, ◌+◌, ◌-◌, ◌<◌, ◌++◌, ◌∷◌, [], List, length, map, take, get_or, refl, sym, ◌∙◌, ap, arith, cond, inl, inr, append_assoc, length-append, nat_eq, Vec, Global, ◌≤◌}
use Rattle.std.proofs.Math.ListN.{set, length-set}
use Rattle.std.specs.Prelude.{codes}
use Rattle.std.specs.List.{flat_map}
use Rattle.std.specs.Fmt.{decimal}
use Rattle.std.proofs.lemmas.Bool.{cases_eq, eq-eqb, ne_eqb}
use Rattle.std.proofs.lemmas.List.{append-nil, length-map, get_or-set_other, get_or-set_same, map-append, take_more}
use Rattle.std.proofs.lemmas.List.Concat.{flat_map-append}
use Rattle.ossl_commands.specs.declared.command.Line.{Line}
use Rattle.ossl_commands.specs.Counts.{lines_of}
use Rattle.ossl_script.specs.declared.caller.LineResult.{LineResult}
use Rattle.ossl_print.specs.Results.{result_among, result_line, results_by, told_to}
use Rattle.ossl_print.proofs.ResultsLaws.{caller_in, default_at, map_at, own_more, result_here}
use Rattle.ossl_print.proofs.results.write_results.Goals as goal

-- a caller's place, where its lines so far are so many
own_place : (lines : List Line) (x caller : ℕ) (places : List ℕ) (place : ℕ) → 0 < caller → caller - 1 < length places → place ≡ get_or places (caller - 1) place →
    get_or places (caller - 1) 0 ≡ length (lines_of (caller - 1 + 1) (take x lines)) → place ≡ length (lines_of caller (take x lines))
own_place lines x caller places place some within here count =
    let same : caller - 1 + 1 ≡ caller = omega (arith, some) in
    here ∙ default_at places (caller - 1) place 0 within ∙ count ∙ ap (λ c. length (lines_of c (take x lines))) same

-- one line more of its caller
places_more : (lines : List Line) (x : ℕ) (line : Line) (places : List ℕ) (callers place : ℕ) → 0 < line.caller → line.caller ≤ callers → length places ≡ callers →
    ((caller : ℕ) → lines_of caller (take (x + 1) lines) ≡ lines_of caller (take x lines) ++ cond (nat_eq line.caller caller) (line ∷ []) []) →
    place ≡ length (lines_of line.caller (take x lines)) →
    ((own : ℕ) → own < callers → get_or places own 0 ≡ length (lines_of (own + 1) (take x lines))) →
    (own : ℕ) → own < callers → get_or (set places (line.caller - 1) (place + 1)) own 0 ≡ length (lines_of (own + 1) (take (x + 1) lines))
places_more lines x line places callers place some few long more here so_far own within = elim (cases_eq own (line.caller - 1)) [
  | inl same ↦
      let its : own + 1 ≡ line.caller = omega (arith, some, same) in
      ap (λ i. get_or (set places (line.caller - 1) (place + 1)) i 0) same
      ∙ get_or-set_same places (line.caller - 1) (place + 1) 0 (omega (arith, long, within, same))
      ∙ ap (λ n. n + 1) here
      ∙ sym (ap length (more (own + 1) ∙ rw (eq-eqb line.caller (own + 1) (sym its)) refl) ∙ length-append (lines_of (own + 1) (take x lines)) (line ∷ []) ∙ ap (λ c. length (lines_of c (take x lines)) + 1) its)
  | inr other ↦
      get_or-set_other places (line.caller - 1) own (place + 1) 0 other
      ∙ so_far own within
      ∙ sym (ap length (more (own + 1) ∙ rw (ne_eqb line.caller (own + 1) (λ q. other (omega (arith, q, some)))) (append-nil (lines_of (own + 1) (take x lines)))))
]

-- one result more
written_more : (lines : List Line) (x : ℕ) (line : Line) (told : ℕ → List LineResult) (result : LineResult) → x < length lines → line ≡ get_or lines x line →
    result_among (told line.caller) line.number ≡ result →
    flat_map result_line (results_by (take (x + 1) lines) told) ≡ flat_map result_line (results_by (take x lines) told) ++ result_line result
written_more lines x line told result within here is =
    let more : take (x + 1) lines ≡ take x lines ++ line ∷ [] = take_more lines x line within ∙ ap (λ y. take x lines ++ y ∷ []) (sym here) in
    ap (λ ls. flat_map result_line (results_by ls told)) more
    ∙ ap (flat_map result_line) (map-append (λ (l : Line). result_among (told l.caller) l.number) (take x lines) (line ∷ []))
    ∙ flat_map-append result_line (results_by (take x lines) told) (result_among (told line.caller) line.number ∷ [])
    ∙ ap (λ r. flat_map result_line (results_by (take x lines) told) ++ r) (append-nil (result_line (result_among (told line.caller) line.number)) ∙ ap result_line is)

pub index-requires : goal.index-requires
index-requires c =
    let lines = c.args.lines.now in
    let results = c.args.results.now in
    let lists = map (λ (rs : Vec LineResult Global). rs.items) results in
    let x = c.loop-line.line-index in
    let line = c.line-item.result in
    let v = c.index-results-own.result in
    let within : x < length lines = omega (arith, c.loop-line-test.true) in
    let caller = caller_in lines lists c.requires.told x line within c.line-item.is in
    let few : line.caller ≤ length results = omega (arith, caller.1, length-map results (λ (rs : Vec LineResult Global). rs.items)) in
    let place = own_place lines x line.caller c.loop-line.places.items c.index-place.result.now caller.0 (omega (arith, caller.0, few, c.loop-line.invariant.callers)) c.index-place.ensures
    (c.loop-line.invariant.places (line.caller - 1) (omega (arith, caller.0, few))) in
    let found = result_here lines lists c.requires.told x line within c.line-item.is (record { line = 0; text = [] }) in
    let mine : told_to lists line.caller ≡ v.items = map_at (λ (rs : Vec LineResult Global). rs.items) results (line.caller - 1) v [] (omega (arith, caller.0, few)) ∙ ap (λ (rs : Vec LineResult Global). rs.items) (sym c.index-results-own.is) in
    omega (arith, found.0, place, ap length mine, v.ok.0)

pub overflow_add-place : goal.overflow_add-place
overflow_add-place c =
    let lines = c.args.lines.now in
    let results = c.args.results.now in
    let lists = map (λ (rs : Vec LineResult Global). rs.items) results in
    let x = c.loop-line.line-index in
    let line = c.line-item.result in
    let v = c.index-results-own.result in
    let within : x < length lines = omega (arith, c.loop-line-test.true) in
    let caller = caller_in lines lists c.requires.told x line within c.line-item.is in
    let few : line.caller ≤ length results = omega (arith, caller.1, length-map results (λ (rs : Vec LineResult Global). rs.items)) in
    let place = own_place lines x line.caller c.loop-line.places.items c.index-place.result.now caller.0 (omega (arith, caller.0, few, c.loop-line.invariant.callers)) c.index-place.ensures
    (c.loop-line.invariant.places (line.caller - 1) (omega (arith, caller.0, few))) in
    let found = result_here lines lists c.requires.told x line within c.line-item.is (record { line = 0; text = [] }) in
    let mine : told_to lists line.caller ≡ v.items = map_at (λ (rs : Vec LineResult Global). rs.items) results (line.caller - 1) v [] (omega (arith, caller.0, few)) ∙ ap (λ (rs : Vec LineResult Global). rs.items) (sym c.index-results-own.is) in
    omega (arith, found.0, place, ap length mine, v.ok.0, v.ok.1, v.small)

pub loop-line-preserved : goal.loop-line-preserved
loop-line-preserved c =
    let lines = c.args.lines.now in
    let results = c.args.results.now in
    let lists = map (λ (rs : Vec LineResult Global). rs.items) results in
    let x = c.loop-line.line-index in
    let line = c.line-item.result in
    let v = c.index-results-own.result in
    let d = c.index.result.now in
    let within : x < length lines = omega (arith, c.loop-line-test.true) in
    let caller = caller_in lines lists c.requires.told x line within c.line-item.is in
    let few : line.caller ≤ length results = omega (arith, caller.1, length-map results (λ (rs : Vec LineResult Global). rs.items)) in
    let place = own_place lines x line.caller c.loop-line.places.items c.index-place.result.now caller.0 (omega (arith, caller.0, few, c.loop-line.invariant.callers)) c.index-place.ensures
    (c.loop-line.invariant.places (line.caller - 1) (omega (arith, caller.0, few))) in
    let found = result_here lines lists c.requires.told x line within c.line-item.is d in
    let mine : told_to lists line.caller ≡ v.items = map_at (λ (rs : Vec LineResult Global). rs.items) results (line.caller - 1) v [] (omega (arith, caller.0, few)) ∙ ap (λ (rs : Vec LineResult Global). rs.items) (sym c.index-results-own.is) in
    let its : result_among (told_to lists line.caller) line.number ≡ d =
    found.1 ∙ ap (λ i. get_or (told_to lists line.caller) i d) (sym place) ∙ ap (λ rs. get_or rs c.index-place.result.now d) mine ∙ sym c.index.ensures in
    let head = codes "results " ++ decimal (length lines) ++ codes "\n" in
    record {
      callers = length-set c.loop-line.places.items (line.caller - 1) (c.index-place.result.now + 1) ∙ c.loop-line.invariant.callers;
      places = places_more lines x line c.loop-line.places.items (length results) c.index-place.result.now caller.0 few c.loop-line.invariant.callers
          (own_more lines lists c.requires.told x line within c.line-item.is) place c.loop-line.invariant.places;
      written =
          c.in_ok-write_result.ensures
          ∙ ap (λ text. text ++ result_line d) c.loop-line.invariant.written
          ∙ append_assoc (c.args.out.now.items ++ head) (flat_map result_line (results_by (take x lines) (told_to lists))) (result_line d)
          ∙ ap (λ text. c.args.out.now.items ++ head ++ text) (sym (written_more lines x line (told_to lists) d within c.line-item.is its));
    }
