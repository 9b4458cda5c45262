-- A text's start is the whole text.
use Rattle.std.proofs.Common.{◌≡◌, ℕ, ◌+◌, ◌-◌, ◌*◌, ◌%◌, ◌^◌, List, [], ◌++◌, length, take, drop, nat_le, ◌&&◌, Ok, Err, if◌then◌else◌, ◌∙◌, arith}
use Rattle.std.specs.Str.{bytes_eq}
use Rattle.ossl_blocks.specs.Held.{held_of}
use Rattle.ossl_ghash.specs.Ghash.{hash_from, filled}
use Rattle.ossl_gcm.specs.declared.kinds.GcmRefused.TheVariants.{BadTag}
use Rattle.ossl_gcm.specs.declared.state.Stream.{Stream}
use Rattle.ossl_gcm.specs.declared.state.Sealer.{Sealer}
use Rattle.ossl_gcm.specs.Gcm.{next_counter, subkey, start, counted, if_fits, gcm_seal, gcm_open}
use Rattle.ossl_gcm.specs.Run.{started, tag_from, ciphertext_of, sealed_of, opened}
use Rattle.ossl_gcm.proofs.Tags.{tag_start}

module _ {C : Type 0} (enc : C → List ℕ → List ℕ) (cipher : C) (iv a : List ℕ) where
  abbrev e : List ℕ → List ℕ
  e = enc cipher

  pub opened_start : (s : Stream C) (text t : List ℕ) → s ≡ started enc cipher iv a → text ≡ [] → opened enc s (text ++ t) ≡ gcm_open (enc cipher) iv a t
  opened_start s text t es et =
      let c : List ℕ = take (length t - 16) t in
      (λ i. opened enc (es i) (et i ++ t))
      ∙ (λ i. if_fits (length c) (if nat_le 16 (length t) && bytes_eq (drop (length t - 16) t) (tag_start e (start e iv) a c i) then Ok (counted e (next_counter (start e iv)) c) else Err BadTag))

  pub ciphertext_start : (s : Sealer C) (t : List ℕ) → s.stream ≡ started enc cipher iv a → held_of s.buffer ≡ []
      → ciphertext_of enc s t ≡ counted (enc cipher) (next_counter (start (enc cipher) iv)) t
  ciphertext_start s t es eh = λ i. counted (enc (es i).cipher) (es i).counter (eh i ++ t)

  pub sealed_start : (s : Sealer C) (t : List ℕ) → s.stream ≡ started enc cipher iv a → held_of s.buffer ≡ [] → s.len ≡ 0
      → sealed_of enc s t ≡ gcm_seal (enc cipher) iv a t
  sealed_start s t es eh el =
      let c : List ℕ = counted e (next_counter (start e iv)) t in
      let n : s.len + length c ≡ length c = omega arith in
      let st : Stream C = s.stream in
      (λ i. let d = ciphertext_start s t es eh i in if_fits (s.len + length d) (Ok (d ++ tag_from (es i).key (es i).mask (es i).aad_bits (es i).hash (s.len + length d) d)))
      ∙ (λ i. if_fits (n i) (Ok (c ++ tag_from (subkey e) (e (start e iv)) (length a * 8 % 2 ^ 64) (hash_from (subkey e) 0 (filled a)) (n i) c)))
      ∙ (λ i. if_fits (length c) (Ok (c ++ tag_start e (start e iv) a c i)))
