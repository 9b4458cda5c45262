-- Which instances are up before and after something goes.
use Rattle.std.proofs.Common.{◌≡◌, ℕ, Bool, true, not, ◌||◌, List, [], ◌∷◌, refl, ap, arith, suc, zero}
use Rattle.std.proofs.Math.ListN.{set}
use Rattle.std.proofs.lemmas.Grind.{common_steps}
use Rattle.ossl_provider.specs.Members.{is_in}
use Rattle.ossl_state.specs.declared.state.Born.{Born}
use Rattle.ossl_state.specs.declared.state.Going.{Going}
use Rattle.ossl_state.specs.declared.state.Going.TheVariants.{Element, Activation, Nothing, Library}
use Rattle.ossl_state.specs.declared.state.Live.{Live}
use Rattle.ossl_state.specs.declared.state.State.{State}
use Rattle.ossl_state.specs.Going.{IsThere, without_going}
use Rattle.ossl_state.specs.State.{is_up, lib_at, up_at}
use Rattle.ossl_state.specs.Step.{closed_of, is_named, returned_of, stays_active, unloaded_of}
use Rattle.ossl_state.proofs.ActiveLaws.{up_after_closing, up_after_settling}
use Rattle.ossl_state.proofs.ListLaws.{any_fewer}
use Rattle.ossl_calls.proofs.UpLaws.{numbers_at}

-- an instance that is up once something has gone was up before
pub is_up-without : (s : State) (going : Going) → IsThere s.libs going → (b : Born) → is_up (without_going s going) b ≡ true → is_up s b ≡ true
is_up-without s (Element t) there b up = fewer _ _ _ (any_fewer (λ (x : Live). is_in b.number x.held) (λ x. not (is_named t x)) s.live) up
  where
    fewer : (a b c : Bool) → (b ≡ true → c ≡ true) → (a || b) ≡ true → (a || c) ≡ true
    fewer a b c f h = grind (arith, common_steps)
is_up-without s (Activation l t kept) there b up = up_after_settling s l (unloaded_of kept t (lib_at s l)) there (stays_active kept (returned_of t (lib_at s l)).given) refl b up
is_up-without s Nothing there b up = up
is_up-without s (Library l) there b up = up_after_closing s l (closed_of (lib_at s l)) there refl b up

-- nothing that goes was born
pub up_at-without : (s : State) (going : Going) (k : ℕ) → up_at (without_going s going) k ≡ numbers_at (is_up (without_going s going)) k s.born
up_at-without s (Element t) k = refl
up_at-without s (Activation l t kept) k = refl
up_at-without s Nothing k = refl
up_at-without s (Library l) k = refl

-- nothing that goes changes the number of the next entry
pub going-next : (s : State) (going : Going) → (without_going s going).next ≡ s.next
going-next s (Element t) = refl
going-next s (Activation l t kept) = refl
going-next s Nothing = refl
going-next s (Library l) = refl
