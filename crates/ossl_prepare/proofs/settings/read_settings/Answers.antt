use Rattle.std.proofs.Common.{Ok, Err, refl, ◌∙◌, arith}
use Rattle.ossl_conf.specs.Answers as conf
use Rattle.ossl_conf.specs.View.{SettingsView}
use Rattle.ossl_commands.specs.declared.limit.Limit.TheVariants as limits
use Rattle.ossl_prepare.specs.Answered.{IsContent, IsSettled, Told}
use Rattle.ossl_prepare.proofs.ContentLaws.{configuration_unread, handed}
use Rattle.ossl_prepare.proofs.SettledLaws.{configuration_unsettled, settled}
use Rattle.ossl_prepare.proofs.settings.read_settings.Goals as goal

pub returns-in_err-text-clause-settings : goal.returns-in_err-text-clause-settings
returns-in_err-text-clause-settings g c before after low high =
    let e = c.in_err-text.field-0.0 in
    let files : Told = record { entries = g.F.Files.entries c.args.files.now; before = before; after = after } in
    rw (c.in-Some.is, handed c.from_residual.result e c.from_residual.ensures)
    (configuration_unread files c.in-Some.name.now e (c.in_err-text.ensures.content before after low high))

pub returns-in-Ok-clause-settings : goal.returns-in-Ok-clause-settings
returns-in-Ok-clause-settings g c before after low high =
    let files : Told = record { entries = g.F.Files.entries c.args.files.now; before = before; after = after } in
    let middle = g.F.Files.faults c.read_content.new.files in
    let text = c.in_ok-text.text in
    let content : IsContent files c.in-Some.name.now limits.Configuration (Ok text) =
    c.in_ok-text.ensures.content before after low (omega (arith, high, c.read_conf.ensures.later)) in
    let is : IsSettled files text (Ok c.in-Ok.settings) =
    settled files text middle (g.F.Files.faults c.read_conf.new.files) (omega (arith, low, c.read_content.ensures.later)) high (Ok c.in-Ok.settings)
    (rw (← c.as_slice.ensures.bytes, ← c.read_content.ensures.kept) c.in-Ok.ensures.answer)
    (λ entries e. rw (← c.as_slice.ensures.bytes) (c.in-Ok.ensures.told entries (c.read_content.ensures.kept ∙ e)))
    (λ name e. cc) in
    rw (c.in-Some.is) (Ok text, content, (Ok c.in-Ok.settings, is, refl))

pub returns-clause-settings : goal.returns-clause-settings
returns-clause-settings g c before after low high =
    let files : Told = record { entries = g.F.Files.entries c.args.files.now; before = before; after = after } in
    let middle = g.F.Files.faults c.read_content.new.files in
    let text = c.in_ok-text.text in
    let refusal = c.in-Err.refusal in
    let content : IsContent files c.in-Some.name.now limits.Configuration (Ok text) =
    c.in_ok-text.ensures.content before after low (omega (arith, high, c.read_conf.ensures.later)) in
    let is : conf.ButForMemory {A = SettingsView} (Err refusal) (IsSettled files text) =
    settled files text middle (g.F.Files.faults c.read_conf.new.files) (omega (arith, low, c.read_content.ensures.later)) high (Err refusal)
    (rw (← c.as_slice.ensures.bytes, ← c.read_content.ensures.kept) c.in-Err.ensures.answer)
    (λ entries e. rw (← c.as_slice.ensures.bytes) (c.in-Err.ensures.told entries (c.read_content.ensures.kept ∙ e)))
    (λ name e. rw (← c.read_content.ensures.kept) (c.in-Err.ensures.failed name e)) in
    rw (c.in-Some.is, c.refused.ensures) (configuration_unsettled files c.in-Some.name.now text refusal content is)
