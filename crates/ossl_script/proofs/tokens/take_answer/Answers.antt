use Rattle.std.proofs.Common.{◌≡◌, Option, sym, ap, ◌∙◌}
use Rattle.ossl_script.specs.declared.held.Held.{Held}
use Rattle.ossl_state.specs.declared.call.Call.{Call}
use Rattle.ossl_script.specs.Held.{held_after, left_by, with_handed}
use Rattle.ossl_script.specs.Places.{held_in}
use Rattle.ossl_script.proofs.TokenLaws.{all_left, nothing_back}
use Rattle.ossl_script.proofs.tokens.take_answer.Goals as goal

pub returns-in-Some : goal.returns-in-Some
returns-in-Some c =
    let held = held_in c.args.places.now.items in
    let left : left_by c.args.call.now c.args.reply.now held ≡ held =
    all_left c.args.call.now c.args.reply.now
    (nothing_back c.args.call.now c.in_default.not-Unload c.in_default.not-Free c.in_default.not-FreeCtx c.args.reply.now) held in
    record {
      ascends = c.hold.ensures.ascends;
      held = c.hold.ensures.held ∙ ap (λ (handed : Option Held). with_handed handed held) c.in-Some.ensures.token
          ∙ ap (with_handed _) (sym left);
    }

pub returns-in_default-handed_out : goal.returns-in_default-handed_out
returns-in_default-handed_out c =
    let held = held_in c.args.places.now.items in
    let left : left_by c.args.call.now c.args.reply.now held ≡ held =
    all_left c.args.call.now c.args.reply.now
    (nothing_back c.args.call.now c.in_default.not-Unload c.in_default.not-Free c.in_default.not-FreeCtx c.args.reply.now) held in
    record {
      ascends = c.requires.ascends;
      held = ap (λ (handed : Option Held). with_handed handed held) c.in_default-handed_out.ensures.token ∙ ap (with_handed _) (sym left);
    }

pub returns-in-Unload-clause-held : goal.returns-in-Unload-clause-held
returns-in-Unload-clause-held c =
    c.give_up.ensures.held c.args.reply.now
    ∙ ap (λ (call : Call). held_after call c.args.reply.now (held_in c.args.places.now.items)) (sym c.in-Unload.is)

pub returns-in-Free-clause-held : goal.returns-in-Free-clause-held
returns-in-Free-clause-held c =
    c.give_up-in-Free.ensures.held c.args.reply.now
    ∙ ap (λ (call : Call). held_after call c.args.reply.now (held_in c.args.places.now.items)) (sym c.in-Free.is)

pub returns-in-FreeCtx-clause-held : goal.returns-in-FreeCtx-clause-held
returns-in-FreeCtx-clause-held c =
    c.give_up-in-FreeCtx.ensures.held c.args.reply.now
    ∙ ap (λ (call : Call). held_after call c.args.reply.now (held_in c.args.places.now.items)) (sym c.in-FreeCtx.is)
