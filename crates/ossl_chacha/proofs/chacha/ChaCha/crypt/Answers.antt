use Rattle.std.proofs.Common.{◌≡◌, ◌∙◌, ℕ, List, ◌+◌, ◌++◌, take, drop, sym, ap, subst, arith, rules, refl}
use Rattle.std.proofs.lemmas.List.{append-nil, take_all, drop_all, take_rest, length-drop}
use Rattle.ossl_chacha.specs.KeyStream.{ChaChaState, text_from}
use Rattle.ossl_chacha.proofs.Texts.{front_more, put_end, text_from-nil}
use Rattle.ossl_chacha.proofs.chacha.ChaCha.crypt.Goals as goal

pub loop-done-preserved : goal.loop-done-preserved
loop-done-preserved c =
    let l = c.loop-done in
    let call = c.crypt_front-done in
    let first = text_from c.args.self.now.key c.args.self.now.iv c.args.self.now.used c.args.text.now in
    let put = put_end l.done l.text call.new.text l.invariant.within in record {
      within = search rules;
      used = search rules;
      text =
          let is = rw (take_rest l.text l.done) at call.ensures.text in
          let count = rw (take_rest l.text l.done) at call.ensures.count in
          let P : ChaChaState → Type 0 =
          λ v. first ≡ take (l.done + call.result) (take l.done l.text ++ call.new.text)
          ++ text_from v.key v.iv v.used (drop (l.done + call.result) (take l.done l.text ++ call.new.text)) in
          rw put
          (subst P (sym call.ensures.used)
          (front_more l.self.key l.self.iv first l.text call.new.text l.self.used (l.self.used + call.result) l.done call.result
          l.invariant.within (omega (arith, count, length-drop l.done l.text)) refl is l.invariant.text));
    }

pub returns-clause-text : goal.returns-clause-text
returns-clause-text c =
    let l = c.loop-done in
    let whole = take_all l.done l.text (omega arith) in
    let none = drop_all l.done l.text (omega arith) in
    sym (l.invariant.text
    ∙ (λ j. whole j ++ text_from l.self.key l.self.iv l.self.used (none j))
    ∙ ap (λ (x : List ℕ). l.text ++ x) (text_from-nil l.self.key l.self.iv l.self.used)
    ∙ append-nil l.text)
