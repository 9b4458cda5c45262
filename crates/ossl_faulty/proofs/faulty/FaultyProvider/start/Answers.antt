use Rattle.std.proofs.Common.{◌≡◌, sym, ◌∙◌, ap}
use Rattle.ossl_faulty.proofs.faulty.FaultyProvider.start.Goals as goal

pub returns-clause-facts : goal.returns-clause-facts
returns-clause-facts c = rw (← c.self.view_is) c.start.ensures.facts

pub start-requires-clause-fresh : goal.start-requires-clause-fresh
start-requires-clause-fresh c = rw (← c.self.view_is) at c.requires.fresh

pub start-requires-clause-room : goal.start-requires-clause-room
start-requires-clause-room c = rw (← c.self.view_is) at c.requires.room

pub start-requires-clause-few : goal.start-requires-clause-few
start-requires-clause-few c = rw (← c.self.view_is) at c.requires.few
