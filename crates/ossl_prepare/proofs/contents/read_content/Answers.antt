use Rattle.std.proofs.Common.{Ok, Err, ap, refl, inl, inr}
use Rattle.ossl_base.specs.declared.files.FileRefusal.TheVariants.{Failed, TooLong}
use Rattle.ossl_prepare.proofs.CauseLaws.{rose_within}
use Rattle.ossl_prepare.proofs.contents.read_content.Goals as goal

pub returns-in-Ok-clause-content : goal.returns-in-Ok-clause-content
returns-in-Ok-clause-content g c before after low high = (
  Ok c.in-Ok.content.items,
  record {
    may = (rw (← c.as_slice.ensures.bytes) c.in-Ok.ensures.content, rw (c.most.ensures.most) at c.in-Ok.ensures.within);
    failed = λ e. cc;
  },
  ap Ok c.of.ensures.bytes,
)

pub returns-in-Err-Failed-clause-content : goal.returns-in-Err-Failed-clause-content
returns-in-Err-Failed-clause-content g c before after low high = (
  Err Failed,
  record {
    may = tt;
    failed = λ e. elim (c.in-Err-Failed.ensures.failed (ap Err c.in-Err-Failed.field-0-is)) [
      | inl rose ↦ inl (rose_within before _ _ after low high rose)
      | inr lacks ↦ inr (rw (← c.as_slice.ensures.bytes) lacks)
    ];
  },
  refl,
)

pub returns-in-Err-TooLong-clause-content : goal.returns-in-Err-TooLong-clause-content
returns-in-Err-TooLong-clause-content g c before after low high = (
  Err TooLong,
  record {
    may = rw (← c.as_slice.ensures.bytes, ← c.most.ensures.most) (c.in-Err-TooLong.ensures.too_long (ap Err c.in-Err-TooLong.field-0-is));
    failed = λ e. cc;
  },
  refl,
)
