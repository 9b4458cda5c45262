use Rattle.std.proofs.Common.{◌≡◌, ◌++◌, ◌∷◌, [], sym, ap, ◌∙◌}
use Rattle.std.proofs.lemmas.List.{append-nil}
use Rattle.ossl_ordered.specs.Opening.{activation_in}
use Rattle.ossl_ordered.proofs.ProgramLaws.{listed, load_more}
use Rattle.ossl_ordered.proofs.opening.load.Goals as goal

pub returns-in-Some-clause-loading : goal.returns-in-Some-clause-loading
returns-in-Some-clause-loading g c =
    let legal = rw (c.call.ensures.fixed, c.in_ok-reply.ensures.entry) at c.call.ensures.legal in
    let old = c.args.tokens.now.items in
    let base = load_more (g.C.Program.fixed c.args.program.now) (g.C.Program.entries c.args.program.now) old c.requires.loading c.in_ok-copy.field-0 c.in_ok-reply.reply legal in
    let tokens : c.push_reserved.new.self.items ≡ old ++ listed (activation_in c.in_ok-reply.reply) =
    c.push_reserved.ensures.items ∙ ap (λ l. l ++ c.in-Some.number ∷ []) c.in_ok-reserve.ensures.items ∙ ap (λ o. old ++ listed o) c.in-Some.ensures in
    rw (c.call.ensures.fixed, c.in_ok-reply.ensures.entry, tokens) base

pub returns-in_err-copy-in-None-clause-loading : goal.returns-in_err-copy-in-None-clause-loading
returns-in_err-copy-in-None-clause-loading g c =
    let legal = rw (c.call.ensures.fixed, c.in_ok-reply.ensures.entry) at c.call.ensures.legal in
    let old = c.args.tokens.now.items in
    let base = load_more (g.C.Program.fixed c.args.program.now) (g.C.Program.entries c.args.program.now) old c.requires.loading c.in_ok-copy.field-0 c.in_ok-reply.reply legal in
    let tokens : c.reserve.new.self.items ≡ old ++ listed (activation_in c.in_ok-reply.reply) =
    c.in_ok-reserve.ensures.items ∙ sym (append-nil old) ∙ ap (λ o. old ++ listed o) c.in-None.ensures in
    rw (c.call.ensures.fixed, c.in_ok-reply.ensures.entry, tokens) base

pub returns-clause-loading : goal.returns-clause-loading
returns-clause-loading g c =
    let legal = rw (c.call.ensures.fixed, c.in_ok-reply.ensures.entry) at c.call.ensures.legal in
    let old = c.args.tokens.now.items in
    let base = load_more (g.C.Program.fixed c.args.program.now) (g.C.Program.entries c.args.program.now) old c.requires.loading c.in_ok-copy.field-0 c.in_ok-reply.reply legal in
    let tokens : c.reserve.new.self.items ≡ old ++ listed (activation_in c.in_ok-reply.reply) =
    c.in_ok-reserve.ensures.items ∙ sym (append-nil old) ∙ ap (λ o. old ++ listed o) c.in-None.ensures in
    rw (c.call.ensures.fixed, c.in_ok-reply.ensures.entry, tokens) base
