-- Worked error lines, by computation.
use Rattle.std.proofs.Common.{◌≡◌, refl}
use Rattle.std.specs.Prelude.{codes}
use Rattle.std.specs.Fmt.{digits}
use Rattle.ossl_conf.specs.declared.kind.ConfKind.TheVariants.{Equals}
use Rattle.ossl_conf.specs.declared.refusal.ConfRefused.TheVariants as refusals
use Rattle.ossl_commands.specs.declared.kind.LineKind.TheVariants as kinds
use Rattle.ossl_commands.specs.declared.limit.Limit.TheVariants as limits
use Rattle.ossl_prepare.specs.declared.error_line.ErrorLine.TheVariants as lines
use Rattle.ossl_prepare.specs.ErrorLine.{error_status, error_text}

pub usage_line : error_text lines.Usage ≡ codes "error usage\n"
usage_line = refl

pub limit_line : error_text (lines.Limit limits.Callers) ≡ codes "error limit callers\n"
limit_line = refl

pub batch_line_text : error_text (lines.Batch 1 kinds.Data) ≡ codes "error batch line 1 data\n"
unfolding digits
batch_line_text = refl

pub provider_line : error_text (lines.Provider (codes "f o")) ≡ codes "error provider f?o\n"
provider_line = refl

pub configuration_line : error_text (lines.Configuration (refusals.NoVariable 1 (codes "nosuch"))) ≡ codes "error configuration line 1 variable nosuch\n"
unfolding digits
configuration_line = refl

pub configuration_status : error_status (lines.Configuration (refusals.Line 3 Equals)) ≡ 5
configuration_status = refl
