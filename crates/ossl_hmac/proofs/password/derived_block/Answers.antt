use Rattle.std.proofs.Common.{◌≡◌, ◌-◌, ◌++◌, ◌∙◌, [], ap, arith}
use Rattle.std.specs.Int.{w32, to_be_bytes}
use Rattle.ossl_hmac.specs.Hmac.{hmac}
use Rattle.ossl_hmac.specs.Pbkdf2.{xored_codes, xored}
use Rattle.ossl_hmac.proofs.Derivation.{codes_more, first_code, output_len_within}
use Rattle.ossl_hmac.proofs.password.derived_block.Goals as goal

pub rounds-init : goal.rounds-init
rounds-init c = λ hash password held.
    let text = c.args.salt.now ++ to_be_bytes w32 c.args.number in
    let fed = c.feed-2.ensures hash password c.args.salt.now (c.feed.ensures hash password [] (rw c.copy-mac.ensures held)) in
    let code = c.finish-code.ensures.code hash password _ fed ∙ ap (λ n. hmac hash password (c.args.salt.now ++ n)) c.to_be_bytes.ensures in
    first_code hash password text _ _ 64 code (c.xor.ensures ∙ ap (xored _) c.as_slice.ensures.value) (output_len_within hash)

pub rounds-preserved : goal.rounds-preserved
rounds-preserved c = λ hash password held.
    let before = c.rounds.invariant hash password held in
    let code = c.code_of-code.ensures.code hash password [] held in
    codes_more hash password (c.args.salt.now ++ to_be_bytes w32 c.args.number) c.rounds.code c.rounds.sum _ _ c.rounds.counter (omega arith)
    before.0 before.1 (code ∙ ap (hmac hash password) c.as_slice-in-rounds.ensures.value)
    (c.xor-in-rounds.ensures ∙ ap (xored c.rounds.sum) c.as_slice-in-rounds-2.ensures.value)

pub returns : goal.returns
returns c = λ hash password held.
    let end : c.rounds.counter ≡ c.args.rounds = omega arith in
    (c.rounds.invariant hash password held).1
    ∙ ap (λ n. xored_codes hash password (c.args.salt.now ++ to_be_bytes w32 c.args.number) (n - 1)) end
