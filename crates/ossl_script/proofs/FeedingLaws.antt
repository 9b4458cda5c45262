-- Bytes fed one after the other are fed joined.
use Rattle.std.proofs.Common.{◌≡◌, ℕ, List, [], ◌++◌, sym, ap, ◌∙◌, subst, append_assoc}
use Rattle.std.proofs.lemmas.List.{append-nil}
use Rattle.ossl_op.specs.declared.context.OpCtx.{OpCtx}
use Rattle.ossl_op.specs.Running.{Runs}
use Rattle.ossl_op.specs.Work.{Appends, CarriesOn, carried_on}
use Rattle.ossl_script.specs.Feeding.{Fed}

-- one feed
pub fed_once : (before after : OpCtx) (bytes old new : List ℕ) → Appends old new
    → CarriesOn (Runs before) (Runs after) bytes old new → Fed before after bytes old new
fed_once before after bytes old new more runs = record {
  text = more.0;
  appended = more.1;
  runs = λ work was. runs work more.0 more.1 was;
}

-- nothing
pub fed_nothing : (context : OpCtx) (old : List ℕ) → Fed context context [] old old
fed_nothing context old = record {
  text = [];
  appended = sym (append-nil old);
  runs = λ work was. subst (λ fed. Runs context (record work { fed = fed; given = work.given ++ [] })) (sym (append-nil work.fed))
      (subst (λ given. Runs context (record work { given = given })) (sym (append-nil work.given)) was);
}

-- two feeds
pub fed_twice : (first second third : OpCtx) (xs ys old mid new : List ℕ) → Fed first second xs old mid → Fed second third ys mid new
    → Fed first third (xs ++ ys) old new
fed_twice first second third xs ys old mid new was more = record {
  text = was.text ++ more.text;
  appended = more.appended ∙ ap (λ (t : List ℕ). t ++ more.text) was.appended ∙ append_assoc old was.text more.text;
  runs = λ work ran.
      subst (λ (fed : List ℕ). Runs third (record work { fed = fed; given = work.given ++ (was.text ++ more.text) })) (append_assoc work.fed xs ys)
      (subst (λ (given : List ℕ). Runs third (record work { fed = (work.fed ++ xs) ++ ys; given = given })) (append_assoc work.given was.text more.text)
      (more.runs (carried_on work xs was.text) (was.runs work ran)));
}

-- the same bytes
pub fed_as : (before after : OpCtx) (xs ys old new : List ℕ) → xs ≡ ys → Fed before after xs old new → Fed before after ys old new
fed_as before after xs ys old new same was = subst (λ (bytes : List ℕ). Fed before after bytes old new) same was
