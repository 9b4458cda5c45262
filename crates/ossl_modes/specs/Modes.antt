-- The modes of a block cipher (SP 800-38A) on whole texts. e and d are the cipher's encryption and decryption of a
-- block, v is the initial value (IV), and a text is read in blocks of 16 bytes.
use Rattle.std.specs.Prelude.{ℕ, zero, suc, ◌+◌, ◌-◌, ◌/◌, ◌%◌, ◌^◌, List, [], ◌++◌, length, take, drop, replicate}
use Rattle.std.specs.Prelude.{Bool, true, false, nat_le, nat_eq, ◌&&◌, slice_index, if◌then◌else◌, Result, Ok, Err}
use Rattle.std.specs.List.{list_all}
use Rattle.std.specs.Int.{w128, from_be_bytes, to_be_bytes}
use Rattle.ossl_aes.specs.Cipher.{add}
use Rattle.ossl_modes.specs.declared.kinds.ModeKind.{ModeKind}
use Rattle.ossl_modes.specs.declared.kinds.ModeKind.TheVariants.{Ecb, Cbc, Cfb, Ofb, Ctr}
use Rattle.ossl_modes.specs.declared.kinds.FinishRefused.{FinishRefused}
use Rattle.ossl_modes.specs.declared.kinds.FinishRefused.TheVariants.{WrongFinalBlock, BadDecrypt}

-- the next counter: the whole block plus one, big-endian, modulo 2 ^ 128 (SP 800-38A, B.1)
abbrev pub next_counter : List ℕ → List ℕ
next_counter v = to_be_bytes w128 ((from_be_bytes w128 v + 1) % 2 ^ 128)

-- what the block b becomes, v being the IV or what stands for it by now: P to C where decrypt is false, C to P where it
-- is true. The last b of CFB, OFB and CTR may be short (SP 800-38A, 6.1 to 6.5)
abbrev pub block_out : (List ℕ → List ℕ) → (List ℕ → List ℕ) → ModeKind → Bool → List ℕ → List ℕ → List ℕ
block_out e d Ecb false v b = e b
block_out e d Ecb true v b = d b
block_out e d Cbc false v b = e (add b v)
block_out e d Cbc true v b = add (d b) v
block_out e d Cfb _ v b = add b (e v)
block_out e d Ofb _ v b = add b (e v)
block_out e d Ctr _ v b = add b (e v)

-- what stands for v at the block after b: the ciphertext block before in CBC and CFB, the cipher's output before in
-- OFB, the next counter in CTR (SP 800-38A, 6.1 to 6.5)
abbrev pub block_next : (List ℕ → List ℕ) → ModeKind → Bool → List ℕ → List ℕ → List ℕ
block_next e Ecb _ v b = v
block_next e Cbc false v b = e (add b v)
block_next e Cbc true v b = b
block_next e Cfb false v b = add b (e v)
block_next e Cfb true v b = b
block_next e Ofb _ v b = e v
block_next e Ctr _ v b = next_counter v

-- whether the mode takes every length: CFB, OFB and CTR
abbrev pub is_stream : ModeKind → Bool
is_stream Ecb = false
is_stream Cbc = false
is_stream _ = true

-- text put before an outcome's text
abbrev pub before : List ℕ → Result (List ℕ) FinishRefused → Result (List ℕ) FinishRefused
before t (Ok x) = Ok (t ++ x)
before t (Err r) = Err r

-- the text with its padding: n bytes of value n, n from 1 to 16 (RFC 5652, 6.3)
abbrev pub padded : List ℕ → List ℕ
padded bs = bs ++ replicate (16 - length bs % 16) (16 - length bs % 16)

-- whether a last block ends in a padding: its last byte n is 1 to 16, and so are its last n bytes n (RFC 5652, 6.3)
abbrev pub ends_in_padding : List ℕ → Bool
ends_in_padding b = let n = slice_index b 15 in
    nat_le 1 n && nat_le n 16 && list_all (λ x. nat_eq x n) (drop (16 - n) b)

-- how many bytes of it are no padding
abbrev pub unpadded_len : List ℕ → Result ℕ FinishRefused
unpadded_len b = if ends_in_padding b then Ok (16 - slice_index b 15) else Err BadDecrypt

-- the last block without its padding
abbrev pub unpadded : List ℕ → Result (List ℕ) FinishRefused
unpadded b = if ends_in_padding b then Ok (take (16 - slice_index b 15) b) else Err BadDecrypt

module _ (e d : List ℕ → List ℕ) (kind : ModeKind) (decrypt : Bool) where
  -- what the first n blocks become
  unfoldable pub blocks : ℕ → List ℕ → List ℕ → List ℕ
  blocks zero v bs = []
  blocks (suc n) v bs = block_out e d kind decrypt v (take 16 bs)
      ++ blocks n (block_next e kind decrypt v (take 16 bs)) (drop 16 bs)

  -- what stands for v after the first n blocks
  unfoldable pub value_after : ℕ → List ℕ → List ℕ → List ℕ
  value_after zero v bs = v
  value_after (suc n) v bs = value_after n (block_next e kind decrypt v (take 16 bs)) (drop 16 bs)

  -- the block equations over the whole text, a short last block with it
  abbrev pub equations : List ℕ → List ℕ → List ℕ
  equations v bs = blocks ((length bs + 15) / 16) v bs

  -- the block equations over the whole blocks of the text, with no check
  abbrev pub whole_blocks : List ℕ → List ℕ → List ℕ
  whole_blocks v bs = blocks (length bs / 16) v bs

  -- what n blocks become, the last without its padding
  unfoldable pub checked : ℕ → List ℕ → List ℕ → Result (List ℕ) FinishRefused
  checked zero v bs = Err (WrongFinalBlock 0)
  checked (suc zero) v bs = unpadded (block_out e d kind decrypt v bs)
  checked (suc (suc n)) v bs =
      before (block_out e d kind decrypt v (take 16 bs))
      (checked (suc n) (block_next e kind decrypt v (take 16 bs)) (drop 16 bs))

  -- the text of all bytes, or the refusal: ECB and CBC want whole blocks, but for an encryption with padding
  abbrev pub outcome : Bool → List ℕ → List ℕ → Result (List ℕ) FinishRefused
  outcome pad v bs =
      if is_stream kind then Ok (equations v bs)
      else if pad && decrypt then (if nat_eq (length bs % 16) 0 then checked ((length bs + 15) / 16) v bs
      else Err (WrongFinalBlock (length bs % 16)))
      else if pad then Ok (equations v (padded bs))
      else if nat_eq (length bs % 16) 0 then Ok (equations v bs)
      else Err (WrongFinalBlock (length bs % 16))
