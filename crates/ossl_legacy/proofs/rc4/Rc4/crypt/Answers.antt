use Rattle.std.proofs.Common.{◌≡◌, ◌∙◌, ℕ, List, ◌++◌, ap, arith}
use Rattle.std.proofs.lemmas.List.{take_all, drop_all}
use Rattle.ossl_legacy.specs.Rc4State.{text_of}
use Rattle.ossl_legacy.proofs.Streams.{state_of, advanced_by, text_more, text_whole}
use Rattle.ossl_legacy.proofs.rc4.Rc4.crypt.Goals as goal

pub loop-byte-preserved : goal.loop-byte-preserved
loop-byte-preserved c =
    let l = c.loop-byte in
    let call = c.exchange-key_byte in
    let next = advanced_by l.self-inside.table call.new.table l.i l.j l.first l.invariant.ahead call.ensures.exchanged in record {
      ahead = call.ensures.ahead;
      text = λ rest. l.invariant.text rest ∙ text_more (state_of l.self-inside.table l.i l.j) _ l.text rest l.byte-index _ (omega arith) next call.ensures.byte;
    }

-- the text at the loop's end, whatever comes yet
goes : (c : goal.After-self-2-1) (rest : List ℕ)
    → text_of c.args.self.now (c.args.text.now ++ rest) ≡ c.loop-byte.text ++ text_of (state_of c.loop-byte.self-inside.table c.loop-byte.i c.loop-byte.j) rest
goes c rest =
    let l = c.loop-byte in
    let whole = take_all l.byte-index l.text (omega arith) in
    let none = drop_all l.byte-index l.text (omega arith) in
    l.invariant.text rest ∙ (λ k. whole k ++ text_of (state_of l.self-inside.table l.i l.j) (none k ++ rest))

pub returns-clause-text : goal.returns-clause-text
returns-clause-text c = text_whole c.args.self.now _ c.args.text.now c.loop-byte.text (goes c)

pub returns-clause-goes_on : goal.returns-clause-goes_on
returns-clause-goes_on c = λ rest.
    goes c rest
    ∙ ap (λ (x : List ℕ). x ++ text_of (state_of c.loop-byte.self-inside.table c.loop-byte.i c.loop-byte.j) rest)
    (text_whole c.args.self.now _ c.args.text.now c.loop-byte.text (goes c))
