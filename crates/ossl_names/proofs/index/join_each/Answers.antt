use Rattle.std.proofs.Common.{◌≡◌, ◌≤◌, ◌++◌, ◌∷◌, [], ℕ, List, Bor, None, true, false, is_some, length, get_or, sym, ap, ◌∙◌, subst, arith}
use Rattle.ossl_names.specs.Name.{folded}
use Rattle.ossl_names.specs.Index.{Index, found, is_found, with_new, FindsAlso, AreNew}
use Rattle.ossl_names.proofs.Finds.{FindsAlso-more, AreNew-more, with_new-missing, with_new-there, fold_names-more, length-folded, none_from}
use Rattle.ossl_names.proofs.index.join_each.Goals as goal
use Rattle.ossl_names.proofs.index.join_each.Goals.{then-is_none+in_ok-to_ascii_lowercase+in_ok-key+in_ok-reserve+in_ok-insert, else-is_none}

pub loop-name-preserved : goal.loop-name-preserved
loop-name-preserved c =
    let old : Index = c.args.index.now in
    let i : ℕ = c.loop-name.name-index in
    let d : Bor (List ℕ) = record { ref_ptr = (0, 0); now = [] } in
    let name : List ℕ = (get_or c.args.names.now i d).now in
    let short : length name ≤ 99 = c.requires.short i d c.loop-name-test.true in
    let so_far = c.loop-name.invariant in
    let more = fold_names-more (with_new (is_found old)) [] c.args.names.now i d c.loop-name-test.true in
    let looked : c.look_up.result ≡ found c.loop-name.index (folded name) = c.look_up.ensures.value short in
    let step = λ (g : List (List ℕ)). with_new (is_found old) g name in
    elim c.if-is_none.branch [
      | then-is_none+in_ok-to_ascii_lowercase+in_ok-key+in_ok-reserve+in_ok-insert w ↦
          let gone : is_some c.look_up.result ≡ false = w.if-is_none.ensures in
          let none : found c.loop-name.index (folded name) ≡ None = sym looked ∙ none_from c.look_up.result gone in
          let fresh : c.if-is_none.fresh.items ≡ c.loop-name.fresh.items ++ folded name ∷ [] = cc (w.push_reserved.ensures.items, w.reserve.ensures.items, w.of-lower.ensures.bytes, w.in_ok-to_ascii_lowercase.ensures.ok) in
          let missing = with_new-missing old c.loop-name.index c.loop-name.fresh.items c.args.number name so_far.finds none in
          let updates = w.in_ok-insert.ensures.updates in
          let finds : FindsAlso old w.insert.new.self (c.loop-name.fresh.items ++ w.in_ok-key.key.items ∷ []) c.args.number = FindsAlso-more old c.loop-name.index w.insert.new.self c.loop-name.fresh.items w.in_ok-key.key.items c.args.number so_far.finds updates in
          let key : w.in_ok-key.key.items ≡ folded name = w.in_ok-key.ensures.ok in
          record {
            new = fresh ∙ sym missing.0 ∙ ap step so_far.new ∙ sym more;
            finds = subst (λ (m : Index). FindsAlso old m c.if-is_none.fresh.items c.args.number) (sym w.index-is) (subst (λ (g : List (List ℕ)). FindsAlso old w.insert.new.self g c.args.number) (ap (λ (k : List ℕ). c.loop-name.fresh.items ++ k ∷ []) key ∙ sym fresh) finds);
            unknown = subst (λ (g : List (List ℕ)). AreNew old g) (sym fresh) (AreNew-more old c.loop-name.fresh.items (folded name) so_far.unknown missing.1 (omega (arith, length-folded name)));
          }
      | else-is_none w ↦
          let stays : is_some (found c.loop-name.index (folded name)) ≡ true = ap is_some (sym looked) ∙ w.if-is_none.ensures in
          let same : c.if-is_none.fresh.items ≡ c.loop-name.fresh.items = ap (λ v. v.items) w.fresh-is in
          record {
            new = same ∙ sym (with_new-there old c.loop-name.index c.loop-name.fresh.items c.args.number name so_far.finds stays) ∙ ap step so_far.new ∙ sym more;
            finds = subst (λ (m : Index). FindsAlso old m c.if-is_none.fresh.items c.args.number) (sym w.index-is) (subst (λ (g : List (List ℕ)). FindsAlso old c.loop-name.index g c.args.number) (sym same) so_far.finds);
            unknown = subst (λ (g : List (List ℕ)). AreNew old g) (sym same) so_far.unknown;
          }
    ]
