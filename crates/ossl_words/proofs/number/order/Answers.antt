use Rattle.std.proofs.Common.{◌∙◌, ◌+◌, Some, ap, arith, length, lit<, subst, sym}
use Rattle.std.proofs.lemmas.Iterator.Consumers.{YieldsList-turn, YieldsList-end}
use Rattle.std.proofs.lemmas.Iterator.Splits.{YieldsList-from_str_split}
use Rattle.std.proofs.lemmas.List.{length_push}
use Rattle.ossl_words.specs.Numbers.{items_of}
use Rattle.ossl_words.proofs.Numbers.{Reads, next_by, no_caller, pushed, read_whole, reads_more, too_many}
use Rattle.ossl_words.proofs.number.order.Goals as goal

pub returns-then-len-eq-MOST_TURNS : goal.returns-then-len-eq-MOST_TURNS
returns-then-len-eq-MOST_TURNS c =
    let items = YieldsList-from_str_split {s = c.into_iter-item-iterator.result} 44 c.args.text.now (lit< tt) (cc) (cc) (cc) in
    let turn = YieldsList-turn items c.loop-item.yielded _ c.loop-item.yielded_by _ _ c.in-Some.item c.in-Some.is c.next.ensures.steps in
    let next = next_by (items_of c.args.text.now) c.loop-item.callers.items c.in-Some.item.now _ c.loop-item.invariant.each turn in
    too_many c.args.text.now c.loop-item.callers.items c.in-Some.item.now next (omega arith)

pub returns-in_default : goal.returns-in_default
returns-in_default c =
    let items = YieldsList-from_str_split {s = c.into_iter-item-iterator.result} 44 c.args.text.now (lit< tt) (cc) (cc) (cc) in
    let turn = YieldsList-turn items c.loop-item.yielded _ c.loop-item.yielded_by _ _ c.in-Some.item c.in-Some.is c.next.ensures.steps in
    let next = next_by (items_of c.args.text.now) c.loop-item.callers.items c.in-Some.item.now _ c.loop-item.invariant.each turn in
    no_caller c.args.text.now c.loop-item.callers.items c.in-Some.item.now c.loop-item.invariant.reads next (sym c.in_default.is ∙ c.number.ensures)

pub loop-item-preserved : goal.loop-item-preserved
loop-item-preserved c =
    let items = YieldsList-from_str_split {s = c.into_iter-item-iterator.result} 44 c.args.text.now (lit< tt) (cc) (cc) (cc) in
    let turn = YieldsList-turn items c.loop-item.yielded _ c.loop-item.yielded_by _ _ c.in-Some.item c.in-Some.is c.next.ensures.steps in
    let next = next_by (items_of c.args.text.now) c.loop-item.callers.items c.in-Some.item.now _ c.loop-item.invariant.each turn in
    let grown = pushed _ _ _ _ c.push.ensures.items c.if-is_err.ensures.negation in
    let longer = ap length grown ∙ length_push c.loop-item.callers.items c.in-Some-number.caller in
    record {
      each = longer ∙ ap (λ k. k + 1) c.loop-item.invariant.each ∙ sym (length_push c.loop-item.yielded c.in-Some.item);
      most = omega (arith, longer);
      reads = subst (Reads (items_of c.args.text.now)) (sym grown)
          (reads_more (items_of c.args.text.now) c.loop-item.callers.items c.in-Some.item.now c.in-Some-number.caller c.loop-item.invariant.reads next
          (sym c.in-Some-number.is ∙ c.number.ensures));
    }

pub returns : goal.returns
returns c =
    let items = YieldsList-from_str_split {s = c.into_iter-item-iterator.result} 44 c.args.text.now (lit< tt) (cc) (cc) (cc) in
    let end = YieldsList-end items c.loop-item.yielded _ c.loop-item.yielded_by _ _ c.in-None.is c.next.ensures.steps in
    read_whole c.args.text.now c.loop-item.callers.items c.loop-item.invariant.reads (c.loop-item.invariant.each ∙ end.1) c.loop-item.invariant.most
    ∙ ap Some (sym c.of.ensures.callers)
