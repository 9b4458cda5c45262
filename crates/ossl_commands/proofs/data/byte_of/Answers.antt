use Rattle.std.proofs.Common.{◌∙◌, sym}
use Rattle.ossl_commands.proofs.DataLaws.{one_byte}
use Rattle.ossl_commands.proofs.data.byte_of.Goals as goal

pub returns-in-Err : goal.returns-in-Err
returns-in-Err c byte = (
  λ none. cc none,
  λ is.
      let sized = (one_byte c.args.text.now byte).1 is in
      let good = (rw sized at c.decode_to_slice.ensures.value).0 in
      cc (sym c.in-Err.is ∙ good),
)
