-- A method that was fetched may be given back.
use Rattle.std.proofs.Common.{◌≡◌, ◌∙◌, ℕ, false, refl, sym, subst, ap, List, [], ◌∷◌, ◌++◌, eq-eqb}
use Rattle.ossl_base.specs.declared.entry.Entry.{Entry}
use Rattle.ossl_codes.specs.declared.code.Code.{Code}
use Rattle.ossl_codes.specs.declared.code.Operation.{Operation}
use Rattle.ossl_property.specs.declared.clause.Clause.{Clause}
use Rattle.ossl_state.specs.declared.call.Call.{Call}
use Rattle.ossl_state.specs.declared.call.Call.TheVariants.{Fetch, Free}
use Rattle.ossl_state.specs.declared.call.Reply.{Reply}
use Rattle.ossl_state.specs.declared.call.Reply.TheVariants.{Fetched}
use Rattle.ossl_state.specs.History.{Fixed, IsAllowed}
use Rattle.ossl_state.specs.Tokens.{method_token, owns, entries_of}
use Rattle.ossl_turn.proofs.Views.{own_same}
use Rattle.ossl_core.proofs.Laws.{owns-more}

pub may_free : (fixed : Fixed) (log : List (Entry Call Reply)) (c l : ℕ) (op : Operation) (name : List ℕ)
    (query : List Clause) (n : ℕ) (p : List ℕ) (i r : ℕ) (code : Code) →
    IsAllowed fixed (entries_of c (log ++ record { caller = c; call = Fetch l op name query; reply = Fetched n p i r code } ∷ []))
    (Free n)
may_free fixed log c l op name query n p i r code =
    let e : Entry Call Reply = record { caller = c; call = Fetch l op name query; reply = Fetched n p i r code } in
    record {
      lib = refl;
      tokens = ap (λ (mine : List (Entry Call Reply)). owns mine n method_token) (own_same c log e refl)
          ∙ (owns-more false (entries_of c log) e n method_token ∙ rw (eq-eqb n n refl) refl);
    }

-- the same of a history by what a call said of it
pub may_free_after : (fixed : Fixed) (before after : List (Entry Call Reply)) (c l : ℕ) (op : Operation)
    (name : List ℕ) (query : List Clause) (reply : Reply) (n : ℕ) (p : List ℕ) (i r : ℕ) (code : Code) →
    after ≡ before ++ record { caller = c; call = Fetch l op name query; reply = reply } ∷ [] →
    reply ≡ Fetched n p i r code → IsAllowed fixed (entries_of c after) (Free n)
may_free_after fixed before after c l op name query reply n p i r code is said =
    let entries : after ≡ before ++ record { caller = c; call = Fetch l op name query; reply = Fetched n p i r code } ∷ []
    = is ∙ ap (λ (x : Reply). before ++ record { caller = c; call = Fetch l op name query; reply = x } ∷ []) said in
    subst (λ (es : List (Entry Call Reply)). IsAllowed fixed (entries_of c es) (Free n)) (sym entries)
    (may_free fixed before c l op name query n p i r code)
