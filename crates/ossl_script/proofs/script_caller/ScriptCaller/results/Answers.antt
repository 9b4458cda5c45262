use Rattle.ossl_script.proofs.RenamingLaws.{results_name_no_token}
use Rattle.ossl_script.proofs.script_caller.ScriptCaller.results.Goals as goal

pub returns-clause-numberless : goal.returns-clause-numberless
returns-clause-numberless c = results_name_no_token
