use Rattle.std.proofs.Common.{◌≡◌, ◌++◌, List, ℕ, ap, ◌∙◌, arith}
use Rattle.ossl_hkdf.specs.declared.mode.HkdfMode.TheVariants.{Both}
use Rattle.ossl_hkdf.specs.Hkdf.{hkdf}
use Rattle.ossl_speed.specs.Message.{message}
use Rattle.ossl_speed.proofs.Lengths.{derivable}
use Rattle.ossl_speed.proofs.value.derived.Goals as goal

pub returns-in-Ok : goal.returns-in-Ok
returns-in-Ok c =
    let key : c.as_slice.result.now ≡ message c.args.length =
    c.as_slice.ensures.value ∙ c.in_ok-take_message.ensures ∙ ap (λ (held : List ℕ). held ++ message c.args.length) c.new-key.ensures.items in
    c.in-Ok.ensures.given (λ long. omega (arith, long, derivable c.args.hash))
    ∙ (λ i. hkdf Both c.args.hash (key i) (c.front.ensures.value i) (c.front-2.ensures.value i) 42)
