use Rattle.std.proofs.Common.{◌≡◌, ℕ, List, ◌++◌, take, drop}
use Rattle.ossl_legacy.specs.Rc4State.{first_of, text_of}
use Rattle.ossl_legacy.proofs.Streams.{state_of}
use Rattle.ossl_legacy.proofs.rc4.Rc4.crypt.Given as goal

abbrev pub invariant-loop-byte : goal.invariant-loop-byte
invariant-loop-byte l = record {
  ahead : l.first ≡ first_of (state_of l.self-inside.table l.i l.j);
  text : (rest : List ℕ)
      → text_of l.fn.self (l.fn.text ++ rest)
      ≡ take l.byte-index l.text ++ text_of (state_of l.self-inside.table l.i l.j) (drop l.byte-index l.text ++ rest);
}
