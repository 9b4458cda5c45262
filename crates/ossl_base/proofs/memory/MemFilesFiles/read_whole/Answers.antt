use Rattle.std.proofs.Common.{◌≡◌, false, rules}
use Rattle.std.specs.Prelude.{Some}
use Rattle.ossl_base.specs.Files.{entry_of}
use Rattle.ossl_base.specs.Memory.{is_listed}
use Rattle.ossl_base.proofs.FilesLaws.{is_served}
use Rattle.ossl_base.proofs.memory.MemFilesFiles.read_whole.Goals as goal

pub returns-then-content-limit-clause-fails : goal.returns-then-content-limit-clause-fails
returns-then-content-limit-clause-fails c =
    let there : entry_of c.args.self.now.entries c.args.name.now ≡ Some c.in-Some.field-0.now = search rules in
    let unlisted : is_listed c.args.self.now.calls c.args.self.now.fail ≡ false = search rules in
    let served = is_served c.args.self.now c.args.name.now _ there unlisted in (λ h. cc, λ t. cc)

pub returns-in-Ok-clause-fails : goal.returns-in-Ok-clause-fails
returns-in-Ok-clause-fails c =
    let there : entry_of c.args.self.now.entries c.args.name.now ≡ Some c.in-Some.field-0.now = search rules in
    let unlisted : is_listed c.args.self.now.calls c.args.self.now.fail ≡ false = search rules in
    let served = is_served c.args.self.now c.args.name.now _ there unlisted in (λ h. cc, λ t. cc)

pub returns-in-Err-clause-fails : goal.returns-in-Err-clause-fails
returns-in-Err-clause-fails c =
    let there : entry_of c.args.self.now.entries c.args.name.now ≡ Some c.in-Some.field-0.now = search rules in
    let unlisted : is_listed c.args.self.now.calls c.args.self.now.fail ≡ false = search rules in
    let served = is_served c.args.self.now c.args.name.now _ there unlisted in (λ h. cc, λ t. cc)
