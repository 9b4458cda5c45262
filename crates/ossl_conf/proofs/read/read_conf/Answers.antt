use Rattle.std.proofs.Common.{◌≡◌, List, ℕ, Ok, Err, Result, ap, subst, sym, ◌∙◌}
use Rattle.ossl_base.specs.declared.files.FileRefusal.TheVariants.{Failed}
use Rattle.ossl_conf.specs.declared.refusal.ConfRefused.{ConfRefused}
use Rattle.ossl_conf.specs.declared.refusal.ConfRefused.TheVariants.{File}
use Rattle.ossl_conf.specs.View.{SettingsView}
use Rattle.ossl_conf.specs.Answers.{AfterLines, ButForMemory, IsAnswer, MayIncludeAt}
use Rattle.ossl_conf.specs.Kept.{all_sections}
use Rattle.ossl_conf.specs.Lines.{logical_lines}
use Rattle.ossl_conf.specs.Progress.{conf_of}
use Rattle.ossl_conf.specs.Reading.{Conf, most_depth}
use Rattle.ossl_conf.specs.Settings.{settings_in}
use Rattle.ossl_conf.proofs.AnswerLaws.{answer_from, handed, refusal_from}
use Rattle.ossl_conf.proofs.NoFileLaws.{no_file, settings_in-no_file}
use Rattle.ossl_conf.proofs.ReadLaws.{lines_read, lines_refused, told_answer}
use Rattle.ossl_conf.proofs.read.read_conf.Goals as goal

pub returns-in_err-read_lines-clause-answer : goal.returns-in_err-read_lines-clause-answer
returns-in_err-read_lines-clause-answer g c =
    let entries = g.F.Files.entries c.args.files.now in
    let text = c.args.text.now in
    let refusal = c.in_err-read_lines.field-0.0 in
    rw (handed c.from_residual.result refusal c.from_residual.ensures)
    (refusal_from refusal
    (λ (given : Result Conf ConfRefused). AfterLines (MayIncludeAt entries most_depth) (conf_of c.new-conf.result) (logical_lines text) given)
    (λ (given : Result SettingsView ConfRefused). IsAnswer entries text given)
    (λ h. lines_refused entries text refusal (subst (λ conf. AfterLines (MayIncludeAt entries most_depth) conf (logical_lines text) (Err refusal)) c.new-conf.ensures h))
    c.in_err-read_lines.ensures.read)

pub returns-in_err-read_lines-clause-told : goal.returns-in_err-read_lines-clause-told
returns-in_err-read_lines-clause-told g c =
    let refusal = c.in_err-read_lines.field-0.0 in
    let hand = handed c.from_residual.result refusal c.from_residual.ensures in
    λ entries e. told_answer (g.F.Files.entries c.args.files.now) entries (g.F.Files.faults c.args.files.now) (g.F.Files.faults c.read_lines.new.files) c.args.text.now c.from_residual.result e
    (λ name f.
    let given : ◌≡◌ {A = Result SettingsView ConfRefused} (Err refusal) (Err (File name Failed)) = sym hand ∙ f in
    let same : refusal ≡ File name Failed = cc in
    c.in_err-read_lines.ensures.failed name (ap Err same))
    (returns-in_err-read_lines-clause-answer g c)

answered : goal.returns-clause-answer
answered g c =
    let entries = g.F.Files.entries c.args.files.now in
    let text = c.args.text.now in
    let conf = conf_of c.read_lines.new.conf in
    answer_from c.settings.result (λ given. settings_in conf.sections ≡ given) (IsAnswer entries text)
    (λ given e. lines_read entries text conf given
    (subst (λ first. AfterLines (MayIncludeAt entries most_depth) first (logical_lines text) (Ok conf)) c.new-conf.ensures c.in_ok-read_lines.ensures.read) e)
    c.settings.ensures

pub returns-clause-answer : goal.returns-clause-answer
returns-clause-answer g c = answered g c

pub returns-clause-told : goal.returns-clause-told
returns-clause-told g c =
    let conf = conf_of c.read_lines.new.conf in
    λ entries e. told_answer (g.F.Files.entries c.args.files.now) entries (g.F.Files.faults c.args.files.now) (g.F.Files.faults c.read_lines.new.files) c.args.text.now c.settings.result e
    (λ name f. absurd (no_file (settings_in conf.sections) c.settings.result (settings_in-no_file conf.sections) c.settings.ensures name Failed f))
    (answered g c)

pub returns-clause-failed : goal.returns-clause-failed
returns-clause-failed g c =
    let conf = conf_of c.read_lines.new.conf in
    λ name f. absurd (no_file (settings_in conf.sections) c.settings.result (settings_in-no_file conf.sections) c.settings.ensures name Failed f)
