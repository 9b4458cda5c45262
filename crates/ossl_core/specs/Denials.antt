-- Calls that handed out nothing.
use Rattle.std.specs.Prelude.{◌≡◌}
use Rattle.ossl_state.specs.declared.call.Call.{Call}
use Rattle.ossl_state.specs.History.{Fixed}
use Rattle.ossl_core.specs.declared.denied.Denied.{Denied}
use Rattle.ossl_core.specs.declared.denied.Denied.TheVariants.{By, NoMemory}
use Rattle.ossl_core.specs.Answered.{CallerFacts, Declines}

-- the registry answered, and handed out nothing; or there was no memory for the call, and the caller is as before
abbrev pub IsDenied : {P : Type 0} → Fixed → CallerFacts P → CallerFacts P → Call → Denied → Type 0
IsDenied fixed before after call (By reply) = Declines fixed before after call reply
IsDenied fixed before after call NoMemory = after ≡ before
