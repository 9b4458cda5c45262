use Rattle.std.proofs.Common.{ℕ, ◌+◌, ◌%◌, ◌^◌, ap, ◌∙◌, arith}
use Rattle.std.specs.Int.{w32, to_be_bytes}
use Rattle.ossl_gcm.proofs.Numbers.{next_by_bytes}
use Rattle.ossl_gcm.proofs.counter.next_counter.Goals as goal

pub returns : goal.returns
returns c =
    next_by_bytes c.args.v c.to_be_bytes.result (omega arith)
    (c.to_be_bytes.ensures ∙ ap (λ (n : ℕ). to_be_bytes w32 ((n + 1) % 2 ^ 32)) c.from_be_bytes-last.ensures)
