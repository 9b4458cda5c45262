use Rattle.std.proofs.Common.{◌≡◌, sym, ◌∙◌, ap}
use Rattle.ossl_faulty.specs.Faulty.{faulty_facts}
use Rattle.ossl_faulty.proofs.faulty.FaultyProvider.stop.Goals as goal

pub returns-clause-facts : goal.returns-clause-facts
returns-clause-facts c = rw (← c.self.view_is) c.stop.ensures.facts
