use Rattle.ossl_crew.proofs.unshared.Unshared.close.Goals as goal

pub returns-clause-sheets : goal.returns-clause-sheets
returns-clause-sheets g c = rw c.self.view_is at c.close.ensures.sheets
