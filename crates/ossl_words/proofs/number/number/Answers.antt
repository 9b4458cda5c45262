use Rattle.std.proofs.Common.{sym, arith}
use Rattle.ossl_words.proofs.Numbers.{said_within, said_over}
use Rattle.ossl_words.proofs.number.number.Goals as goal

pub returns-in_default : goal.returns-in_default
returns-in_default c = said_over c.args.text.now (sym c.if-not-is_decimal.ensures) c.parse.result c.parse.ensures.value.0 c.args.low c.args.high c.in_default.field-0 c.in_default.is (omega arith)

pub returns : goal.returns
returns c = said_within c.args.text.now (sym c.if-not-is_decimal.ensures) c.parse.result c.parse.ensures.value.0 c.args.low c.args.high c.in-Ok.number c.in-Ok.is (omega arith) (omega arith)
