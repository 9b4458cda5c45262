use Rattle.std.proofs.Common.{◌≡◌, ◌≤◌, ◌+◌, ◌-◌, ℕ, suc, List, length, Some, Ok, Err, Result, ap, subst, sym, refl, ◌∙◌, arith}
use Rattle.std.specs.Option.{option_copied}
use Rattle.ossl_base.specs.declared.files.FileRefusal.{FileRefusal}
use Rattle.ossl_base.specs.declared.files.FileRefusal.TheVariants.{Failed}
use Rattle.ossl_conf.specs.declared.refusal.ConfRefused.{ConfRefused}
use Rattle.ossl_conf.specs.Answers.{AfterLine, AfterLines, MayAnswer, MayIncludeAt}
use Rattle.ossl_conf.specs.Kept.{all_sections}
use Rattle.ossl_conf.specs.Lines.{logical_lines}
use Rattle.ossl_conf.specs.Places.{current_name, place_of, IsPlace}
use Rattle.ossl_conf.specs.Private.{after, lines_behind, shown_said}
use Rattle.ossl_conf.specs.Progress.{conf_of}
use Rattle.ossl_conf.specs.Reading.{Conf, after_file, after_plain, content_of, within_file}
use Rattle.ossl_conf.specs.Said.{said, includes}
use Rattle.ossl_conf.proofs.AnswerLaws.{handed, refusal_from}
use Rattle.ossl_conf.proofs.ConfLaws.{current_name-Stays, IsPlace-same, IsPlace-Stays}
use Rattle.ossl_conf.proofs.NoFileLaws.{after_plain-no_file, no_file}
use Rattle.ossl_conf.proofs.ReadLaws.{AfterLine-plain, lines_same, next_line, not_read, was_read}
use Rattle.ossl_conf.proofs.read.+reading.Goals as goal
use Rattle.ossl_conf.proofs.read.+reading.Goals.{read_lines-in-Includes+in_ok-include-in-Includes, read_lines-in_default-said+in_ok-obey-in_default-said}

pub include-returns-in_err-content-clause-read : goal.include-returns-in_err-content-clause-read
include-returns-in_err-content-clause-read g t c =
    let conf = conf_of c.args.conf.now in
    let entries = g.F.Files.entries c.args.files.now in
    let refusal = c.in_err-content.field-0.0 in
    let deep : suc (c.args.depths - 1) ≡ c.args.depths = omega (arith, c.if-depths-eq0.false) in
    rw (handed c.from_residual-in_err-content.result refusal c.from_residual-in_err-content.ensures)
    (refusal_from refusal
    (λ (content : Result (List ℕ) ConfRefused). (answer : Result (List ℕ) FileRefusal) × MayAnswer entries c.in_ok-name.name conf.left answer × (content ≡ content_of c.in_ok-name.name answer))
    (λ (given : Result Conf ConfRefused). AfterLine (MayIncludeAt entries c.args.depths) conf c.args.number (includes c.args.text.now) given)
    (λ h. subst (λ depths. AfterLine (MayIncludeAt entries depths) conf c.args.number (includes c.args.text.now) (Err refusal)) deep
    (not_read entries conf c.args.number c.args.text.now c.in_ok-name.name c.in_ok-name.ensures (c.args.depths - 1) refusal h.0 h.1 h.2))
    c.in_err-content.ensures.answer)

pub include-returns-in_err-read_lines-clause-read :
    goal.include-returns-in_err-read_lines-clause-read
include-returns-in_err-read_lines-clause-read g t c =
    let conf = conf_of c.args.conf.now in
    let entries = g.F.Files.entries c.args.files.now in
    let now = g.F.Files.entries c.content_of.new.files in
    let content = c.in_ok-content.content.items in
    let told = c.in_ok-content.ensures.answer in
    let refusal = c.in_err-read_lines.field-0.0 in
    let entered = conf_of c.enter-place.new.self in
    let within : entered ≡ within_file conf content = c.enter-place.ensures.conf ∙ ap (λ (long : ℕ). record conf { left = conf.left - long }) (c.len.ensures ∙ sym c.as_slice.ensures.len ∙ ap length c.as_slice.ensures.value) in
    let deep : suc (c.args.depths - 1) ≡ c.args.depths = omega (arith, c.if-depths-eq0.false) in
    rw (handed c.from_residual-in_err-read_lines.result refusal c.from_residual-in_err-read_lines.ensures)
    (refusal_from refusal
    (λ (given : Result Conf ConfRefused). AfterLines (MayIncludeAt now (c.args.depths - 1)) entered (logical_lines c.as_slice.result.now) given)
    (λ (given : Result Conf ConfRefused). AfterLine (MayIncludeAt entries c.args.depths) conf c.args.number (includes c.args.text.now) given)
    (λ h. subst (λ depths. AfterLine (MayIncludeAt entries depths) conf c.args.number (includes c.args.text.now) (Err refusal)) deep
    (was_read entries conf c.args.number c.args.text.now c.in_ok-name.name c.in_ok-name.ensures (c.args.depths - 1) content told.0 (Err refusal) told.1 told.2
    (lines_same now entries (c.args.depths - 1) entered (within_file conf content) c.as_slice.result.now content (Err refusal) c.content_of.ensures.kept within c.as_slice.ensures.value h)))
    c.in_err-read_lines.ensures.read)

pub include-leave-requires : goal.include-leave-requires
include-leave-requires g t c =
    let before = all_sections c.args.conf.now.sections in
    let entered = all_sections c.enter-place.new.self.sections in
    let same : entered ≡ before = ap all_sections c.enter-place.ensures.sections in
    IsPlace-Stays entered (all_sections c.read_lines.new.conf.sections) c.enter-place.result c.read_lines.ensures.others
    (IsPlace-same before entered c.args.conf.now.current c.enter-place.result same c.enter-place.ensures.place c.args.conf.now.placed)

pub include-returns-clause-read : goal.include-returns-clause-read
include-returns-clause-read g t c =
    let conf = conf_of c.args.conf.now in
    let entries = g.F.Files.entries c.args.files.now in
    let now = g.F.Files.entries c.content_of.new.files in
    let content = c.in_ok-content.content.items in
    let told = c.in_ok-content.ensures.answer in
    let before = all_sections c.args.conf.now.sections in
    let opened = all_sections c.enter-place.new.self.sections in
    let read = all_sections c.read_lines.new.conf.sections in
    let entered = conf_of c.enter-place.new.self in
    let inner = conf_of c.read_lines.new.conf in
    let place = c.enter-place.result in
    let within : entered ≡ within_file conf content = c.enter-place.ensures.conf ∙ ap (λ (long : ℕ). record conf { left = conf.left - long }) (c.len.ensures ∙ sym c.as_slice.ensures.len ∙ ap length c.as_slice.ensures.value) in
    let deep : suc (c.args.depths - 1) ≡ c.args.depths = omega (arith, c.if-depths-eq0.false) in
    let same : opened ≡ before = ap all_sections c.enter-place.ensures.sections in
    let placed : IsPlace opened place = IsPlace-same before opened c.args.conf.now.current place same c.enter-place.ensures.place c.args.conf.now.placed in
    let name : current_name read place ≡ conf.current =
    current_name-Stays opened read place c.read_lines.ensures.others placed ∙ (λ i. current_name (same i) (c.enter-place.ensures.place i)) in
    let left : conf_of c.leave.new.self ≡ after_file conf inner = c.leave.ensures.conf ∙ ap (λ (current : List ℕ). record inner { current = current }) name in
    subst (λ (conf' : Conf). AfterLine (MayIncludeAt entries c.args.depths) conf c.args.number (includes c.args.text.now) (Ok conf')) (sym left)
    (subst (λ depths. AfterLine (MayIncludeAt entries depths) conf c.args.number (includes c.args.text.now) (Ok (after_file conf inner))) deep
    (was_read entries conf c.args.number c.args.text.now c.in_ok-name.name c.in_ok-name.ensures (c.args.depths - 1) content told.0 (Ok inner) told.1 told.2
    (lines_same now entries (c.args.depths - 1) entered (within_file conf content) c.as_slice.result.now content (Ok inner) c.content_of.ensures.kept within c.as_slice.ensures.value c.in_ok-read_lines.ensures.read)))

pub read_lines-returns-in_err-include-in-Includes-clause-read :
    goal.read_lines-returns-in_err-include-in-Includes-clause-read
read_lines-returns-in_err-include-in-Includes-clause-read g t c =
    let entries = g.F.Files.entries c.args.files.now in
    let now = g.F.Files.entries c.lines.files in
    let refusal = c.in_err-include-in-Includes.field-0.0 in
    let conf = conf_of c.lines.conf in
    rw (handed c.from_residual-in_err-include-in-Includes.result refusal c.from_residual-in_err-include-in-Includes.ensures)
    (refusal_from refusal
    (λ (given : Result Conf ConfRefused). AfterLine (MayIncludeAt now c.args.depths) conf c.lines.number (includes c.in-Includes.name.now) given)
    (λ (given : Result Conf ConfRefused). AfterLines (MayIncludeAt entries c.args.depths) (conf_of c.args.conf.now) (logical_lines c.args.text.now) given)
    (λ h. next_line entries now c.args.depths c.lines.number c.in_ok-read.read.lines conf (conf_of c.args.conf.now) (logical_lines c.args.text.now)
    (option_copied c.lines.left) c.in-Some.rest.now c.read_line.new.line.items (option_copied c.in_ok-read.read.rest) (includes c.in-Includes.name.now) (Err refusal) (Err refusal)
    c.lines.invariant.read (ap option_copied c.in-Some.is) (c.in_ok-read.ensures.read c.lines.number) c.lines.invariant.kept (c.in-Includes.ensures ∙ ap said c.as_slice.ensures.value) h refl)
    c.in_err-include-in-Includes.ensures.read)

pub read_lines-returns-in_err-include-in-Includes-clause-others :
    goal.read_lines-returns-in_err-include-in-Includes-clause-others
read_lines-returns-in_err-include-in-Includes-clause-others g t c = λ name at h. c.include.ensures.others name at (c.lines.invariant.others name at h)

pub read_lines-returns-in_err-obey-in_default-said :
    goal.read_lines-returns-in_err-obey-in_default-said
read_lines-returns-in_err-obey-in_default-said g t c =
    let entries = g.F.Files.entries c.args.files.now in
    let now = g.F.Files.entries c.lines.files in
    let refusal = c.in_err-obey-in_default-said.field-0.0 in
    let conf = conf_of c.lines.conf in
    let line = c.said.result in
    let hand = handed c.from_residual-in_err-obey-in_default-said.result refusal c.from_residual-in_err-obey-in_default-said.ensures in
    record {
      read = rw hand
          (refusal_from refusal
          (λ (given : Result Conf ConfRefused). after_plain conf c.lines.number (shown_said line) ≡ given)
          (λ (given : Result Conf ConfRefused). AfterLines (MayIncludeAt entries c.args.depths) (conf_of c.args.conf.now) (logical_lines c.args.text.now) given)
          (λ e. next_line entries now c.args.depths c.lines.number c.in_ok-read.read.lines conf (conf_of c.args.conf.now) (logical_lines c.args.text.now)
          (option_copied c.lines.left) c.in-Some.rest.now c.read_line.new.line.items (option_copied c.in_ok-read.read.rest) (shown_said line) (Err refusal) (Err refusal)
          c.lines.invariant.read (ap option_copied c.in-Some.is) (c.in_ok-read.ensures.read c.lines.number) c.lines.invariant.kept (c.said.ensures ∙ ap said c.as_slice.ensures.value)
          (AfterLine-plain (MayIncludeAt now c.args.depths) conf c.lines.number line (Err refusal) c.in_default-said.not-Includes e) refl)
          c.in_err-obey-in_default-said.ensures.read);
      others = λ name at h. c.obey.ensures.others name at (c.lines.invariant.others name at h);
      failed = λ name e. absurd (no_file (after_plain conf c.lines.number (shown_said line)) (Err refusal) (after_plain-no_file conf c.lines.number (shown_said line)) c.in_err-obey-in_default-said.ensures.read name Failed (ap (after conf) (sym hand ∙ e)));
      kept = c.lines.invariant.kept;
      later = c.lines.invariant.later;
    }

pub read_lines-overflow_add-number : goal.read_lines-overflow_add-number
read_lines-overflow_add-number g t c = omega (arith, c.lines.invariant.bound c.in-Some.rest c.in-Some.is, c.in_ok-read.ensures.within, c.requires)

pub read_lines-lines-preserved : goal.read_lines-lines-preserved
read_lines-lines-preserved g t c =
    let entries = g.F.Files.entries c.args.files.now in
    let now = g.F.Files.entries c.lines.files in
    let conf = conf_of c.lines.conf in
    let bound : (rest : _) → c.in_ok-read.read.rest ≡ Some rest → (c.lines.number + c.in_ok-read.read.lines) + length rest.now ≤ length c.args.text.now + 1 =
    λ rest e. omega (arith, c.lines.invariant.bound c.in-Some.rest c.in-Some.is, (c.in_ok-read.ensures.shorter rest e).1) in
    elim c.match-said.branch [
      | read_lines-in-Includes+in_ok-include-in-Includes w ↦ record {
        read = λ answer h. next_line entries now c.args.depths c.lines.number c.in_ok-read.read.lines conf (conf_of c.args.conf.now) (logical_lines c.args.text.now)
            (option_copied c.lines.left) c.in-Some.rest.now c.read_line.new.line.items (option_copied c.in_ok-read.read.rest) (includes w.in-Includes.name.now) (Ok (conf_of w.include.new.conf)) answer
            c.lines.invariant.read (ap option_copied c.in-Some.is) (c.in_ok-read.ensures.read c.lines.number) c.lines.invariant.kept (w.in-Includes.ensures ∙ ap said c.as_slice.ensures.value)
            w.in_ok-include-in-Includes.ensures.read
            (subst (λ conf. AfterLines (MayIncludeAt entries c.args.depths) (conf_of conf) (lines_behind (c.lines.number + c.in_ok-read.read.lines) (option_copied c.in_ok-read.read.rest)) answer) w.conf-is h);
        others = λ name at h. subst (λ conf. place_of (all_sections conf.sections) name ≡ Some at) (sym w.conf-is) (w.include.ensures.others name at (c.lines.invariant.others name at h));
        kept = ap (λ files. g.F.Files.entries files) w.files-is ∙ w.include.ensures.kept ∙ c.lines.invariant.kept;
        later = omega (arith, ap (λ files. g.F.Files.faults files) w.files-is, w.include.ensures.later, c.lines.invariant.later);
        bound = bound;
      }
      | read_lines-in_default-said+in_ok-obey-in_default-said w ↦ record {
        read = λ answer h. next_line entries now c.args.depths c.lines.number c.in_ok-read.read.lines conf (conf_of c.args.conf.now) (logical_lines c.args.text.now)
            (option_copied c.lines.left) c.in-Some.rest.now c.read_line.new.line.items (option_copied c.in_ok-read.read.rest) (shown_said c.said.result) (Ok (conf_of w.obey.new.self)) answer
            c.lines.invariant.read (ap option_copied c.in-Some.is) (c.in_ok-read.ensures.read c.lines.number) c.lines.invariant.kept (c.said.ensures ∙ ap said c.as_slice.ensures.value)
            (AfterLine-plain (MayIncludeAt now c.args.depths) conf c.lines.number c.said.result (Ok (conf_of w.obey.new.self)) w.in_default-said.not-Includes w.in_ok-obey-in_default-said.ensures.read)
            (subst (λ conf. AfterLines (MayIncludeAt entries c.args.depths) (conf_of conf) (lines_behind (c.lines.number + c.in_ok-read.read.lines) (option_copied c.in_ok-read.read.rest)) answer) w.conf-is h);
        others = λ name at h. subst (λ conf. place_of (all_sections conf.sections) name ≡ Some at) (sym w.conf-is) (w.obey.ensures.others name at (c.lines.invariant.others name at h));
        kept = ap (λ files. g.F.Files.entries files) w.files-is ∙ c.lines.invariant.kept;
        later = omega (arith, ap (λ files. g.F.Files.faults files) w.files-is, c.lines.invariant.later);
        bound = bound;
      }
    ]

pub read_lines-returns-clause-read : goal.read_lines-returns-clause-read
read_lines-returns-clause-read g t c =
    let entries = g.F.Files.entries c.args.files.now in
    let conf = conf_of c.lines.conf in
    c.lines.invariant.read (Ok conf)
    (subst (λ left. AfterLines (MayIncludeAt entries c.args.depths) conf (lines_behind c.lines.number left) (Ok conf)) (sym (ap option_copied c.in_default.is)) refl)
