-- The end of a message, and ChaCha20 of a whole one.
use Rattle.std.specs.Prelude.{ℕ, ◌+◌, List, length, Bool, not, nat_le, ◌&&◌, if◌then◌else◌, Result, Ok, Err}
use Rattle.ossl_chacha.specs.declared.chacha.StreamEnd.{StreamEnd}
use Rattle.ossl_chacha.specs.KeyStream.{ChaChaState, stream_len, stream_of, text_of, blocks_of}

-- whether the key stream reaches to the end of a message that goes on with these bytes
abbrev pub reaches : ChaChaState → List ℕ → Bool
reaches state bytes = not state.is_over && nat_le (state.used + length bytes) (stream_len state.iv)

-- how a message ends that goes on with these bytes: well, or refused with the number of blocks that there are
abbrev pub end_of : ChaChaState → List ℕ → Result (Unit {0}) StreamEnd
end_of state bytes = if reaches state bytes then Ok tt else Err (record { blocks = blocks_of state.iv })

-- what a stream gives of a message that goes on with these bytes: its text, or the refusal
abbrev pub outcome_of : ChaChaState → List ℕ → Result (List ℕ) StreamEnd
outcome_of state bytes =
    if reaches state bytes then Ok (text_of state bytes) else Err (record { blocks = blocks_of state.iv })

-- ChaCha20 of a whole message, the same in both directions
abbrev pub chacha20 : List ℕ → List ℕ → List ℕ → Result (List ℕ) StreamEnd
chacha20 key iv bytes = outcome_of (stream_of key iv) bytes
