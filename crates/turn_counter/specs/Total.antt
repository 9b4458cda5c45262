-- What a counter has counted.
use Rattle.std.specs.Prelude.{ℕ, ◌%◌, ◌^◌, List, sum_by}
use Rattle.ossl_base.specs.declared.entry.Entry.{Entry}
use Rattle.turn_counter.specs.declared.counter.Add.{Add}

-- the sum of what the calls add, modulo 2^64
abbrev pub total_of : List (Entry Add ℕ) → ℕ
total_of log = sum_by (λ e. e.call.0) log % 2 ^ 64
