use Rattle.std.proofs.Common.{◌≡◌, ◌≤◌, [], Ok, map, length, ap, ◌∙◌, arith}
use Rattle.std.specs.Option.{option_copied}
use Rattle.ossl_prepare.specs.Answered.{AreContents, Told}
use Rattle.ossl_prepare.specs.Due.{fitting}
use Rattle.ossl_prepare.proofs.ContentLaws.{handed}
use Rattle.ossl_prepare.proofs.StepLaws.{all_done, contents_refused, limits_refused, settings_refused}
use Rattle.ossl_prepare.proofs.ready.prepare.Goals as goal

pub returns-in_err-contents-clause-due : goal.returns-in_err-contents-clause-due
returns-in_err-contents-clause-due g c before after low high =
    let files : Told = record { entries = g.F.Files.entries c.args.files.now; before = before; after = after } in
    let e = c.in_err-contents.field-0.0 in
    rw (handed c.from_residual-in_err-contents.result e c.from_residual-in_err-contents.ensures)
    (contents_refused files (option_copied c.args.conf) c.args.text.now c.in_ok-script.script c.in_ok-script.ensures c.in_ok-check_limits.ensures e
    (rw (← c.files.ensures.files) (c.in_err-contents.ensures.contents before after low high)))

pub returns-in_err-check_limits-2-clause-due : goal.returns-in_err-check_limits-2-clause-due
returns-in_err-check_limits-2-clause-due g c before after low high =
    let files : Told = record { entries = g.F.Files.entries c.args.files.now; before = before; after = after } in
    let e = c.in_err-check_limits-2.field-0.0 in
    let held = c.in_ok-contents.contents.items in
    let are : AreContents files [] c.in_ok-script.script.files (Ok held) = rw (← c.files.ensures.files) (c.in_ok-contents.ensures.contents before after low high) in
    let lengths : c.as_slice-2.result.now ≡ map length held = c.as_slice-2.ensures.value ∙ c.in_ok-lengths.ensures.lengths ∙ ap (map length) c.as_slice.ensures.value in
    rw (handed c.from_residual-in_err-check_limits-2.result e c.from_residual-in_err-check_limits-2.ensures)
    (limits_refused files (option_copied c.args.conf) c.args.text.now c.in_ok-script.script c.in_ok-script.ensures c.in_ok-check_limits.ensures held are e
    (rw (← lengths) c.in_err-check_limits-2.ensures))

pub returns-in_err-settings-clause-due : goal.returns-in_err-settings-clause-due
returns-in_err-settings-clause-due g c before after low high =
    let files : Told = record { entries = g.F.Files.entries c.args.files.now; before = before; after = after } in
    let e = c.in_err-settings.field-0.0 in
    let held = c.in_ok-contents.contents.items in
    let middle : g.F.Files.faults c.read_contents.new.files ≤ after = omega (arith, high, c.read_settings.ensures.later) in
    let first : before ≤ g.F.Files.faults c.read_contents.new.files = omega (arith, low, c.read_contents.ensures.later) in
    let are : AreContents files [] c.in_ok-script.script.files (Ok held) = rw (← c.files.ensures.files) (c.in_ok-contents.ensures.contents before after low middle) in
    let lengths : c.as_slice-2.result.now ≡ map length held = c.as_slice-2.ensures.value ∙ c.in_ok-lengths.ensures.lengths ∙ ap (map length) c.as_slice.ensures.value in
    let fit : Ok tt ≡ fitting c.in_ok-script.script (map length held) = rw (← lengths) c.in_ok-check_limits-2.ensures in
    rw (handed c.from_residual-in_err-settings.result e c.from_residual-in_err-settings.ensures)
    (settings_refused files (option_copied c.args.conf) c.args.text.now c.in_ok-script.script c.in_ok-script.ensures c.in_ok-check_limits.ensures held are fit e
    (rw (← c.read_contents.ensures.kept) (c.in_err-settings.ensures.settings before after first high)))

pub returns-clause-due : goal.returns-clause-due
returns-clause-due g c before after low high =
    let files : Told = record { entries = g.F.Files.entries c.args.files.now; before = before; after = after } in
    let held = c.in_ok-contents.contents.items in
    let middle : g.F.Files.faults c.read_contents.new.files ≤ after = omega (arith, high, c.read_settings.ensures.later) in
    let first : before ≤ g.F.Files.faults c.read_contents.new.files = omega (arith, low, c.read_contents.ensures.later) in
    let are : AreContents files [] c.in_ok-script.script.files (Ok held) = rw (← c.files.ensures.files) (c.in_ok-contents.ensures.contents before after low middle) in
    let lengths : c.as_slice-2.result.now ≡ map length held = c.as_slice-2.ensures.value ∙ c.in_ok-lengths.ensures.lengths ∙ ap (map length) c.as_slice.ensures.value in
    let fit : Ok tt ≡ fitting c.in_ok-script.script (map length held) = rw (← lengths) c.in_ok-check_limits-2.ensures in
    all_done files (option_copied c.args.conf) c.args.text.now c.in_ok-script.script c.in_ok-script.ensures c.in_ok-check_limits.ensures held are fit c.in_ok-settings.settings
    (rw (← c.read_contents.ensures.kept) (c.in_ok-settings.ensures.settings before after first high))
