-- CMAC (SP 800-38B) on whole messages, by a cipher's encryption e of a block of 16 bytes.
use Rattle.std.specs.Prelude.{ℕ, zero, suc, ◌-◌, ◌*◌, ◌/◌, ◌%◌, ◌^◌, List, ◌∷◌, ◌++◌, length, take, drop, replicate}
use Rattle.std.specs.Prelude.{nat_lt, nat_eq, bit_xor, if◌then◌else◌}
use Rattle.std.specs.Int.{w128, from_be_bytes, to_be_bytes}
use Rattle.ossl_aes.specs.Cipher.{add}

-- a number of 128 bits moved left by a bit, with 0x87 added where its top bit was set (SP 800-38B, 6.1)
abbrev pub shifted_left : ℕ → ℕ
shifted_left n = if nat_lt n (2 ^ 127) then 2 * n else bit_xor (2 * n % 2 ^ 128) 0x87

-- the subkey after a block (SP 800-38B, 6.1)
abbrev pub next_subkey : List ℕ → List ℕ
next_subkey b = to_be_bytes w128 (shifted_left (from_be_bytes w128 b))

module _ (e : List ℕ → List ℕ) where
  -- the subkeys K1 and K2, from the block of zeros encrypted (SP 800-38B, 6.1)
  abbrev pub subkey_1 : List ℕ
  subkey_1 = next_subkey (e (replicate 16 0))

  abbrev pub subkey_2 : List ℕ
  subkey_2 = next_subkey subkey_1

  -- the last block: a whole one with K1; a short or missing one completed by 0x80 and zeros, with K2 (SP 800-38B, 6.2)
  abbrev pub last_block : List ℕ → List ℕ
  last_block b = if nat_eq (length b) 16 then add b subkey_1 else add (b ++ 0x80 ∷ replicate (15 - length b) 0) subkey_2

  -- the chain over the first n blocks, begun with v: each block is added to what came before, and encrypted
  -- (SP 800-38B, 6.2)
  unfoldable pub chained : ℕ → List ℕ → List ℕ → List ℕ
  chained zero v m = v
  chained (suc n) v m = chained n (e (add (take 16 m) v)) (drop 16 m)

  -- the code of a message whose chain begins with v: the chain over all blocks but the last, and then the last
  unfoldable pub mac_from : List ℕ → List ℕ → List ℕ
  mac_from v m = let n = (length m - 1) / 16 in e (add (last_block (drop (16 * n) m)) (chained n v m))

  -- the code of a message (SP 800-38B, 6.2)
  abbrev pub cmac : List ℕ → List ℕ
  cmac m = mac_from (replicate 16 0) m
