use Rattle.std.proofs.Common.{◌≡◌, ◌≤◌, ℕ, List, Bool, length, rules, arith}
use Rattle.std.proofs.lemmas.Iterator.{YieldsList-from_slice}
use Rattle.std.proofs.lemmas.Iterator.Search.{all_from_yields_List}
use Rattle.std.specs.List.{list_all}
use Rattle.ossl_names.specs.Name.{is_name, is_name_byte}
use Rattle.ossl_names.proofs.name.is_name.Goals as goal
use borrow.Author.Tests.{tests}

by_bytes : (name : List ℕ) (r : Bool) → r ≡ list_all is_name_byte name → 1 ≤ length name → length name ≤ 99 → r ≡ is_name name
by_bytes name r e low high = grind (arith, tests)

pub returns-then-name-le-LONGEST_NAME : goal.returns-then-name-le-LONGEST_NAME
returns-then-name-le-LONGEST_NAME c =
    let visible = all_from_yields_List is_name_byte _ _ _ c.all.ensures.ran (YieldsList-from_slice c.args.name.now cc) (λ x b q k. search (rules, tests)) in
    by_bytes c.args.name.now _ visible c.if-name-le-LONGEST_NAME.true.0 c.if-name-le-LONGEST_NAME.true.1
