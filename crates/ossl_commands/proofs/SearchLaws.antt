-- What a search for a byte tells of the run before it, and of a text that is cut there.
use Rattle.std.proofs.Common.{◌≡◌, ℕ, zero, suc, ◌+◌, ◌-◌, ◌<◌, ◌≤◌, Bool, true, false, not, cond, List, [], ◌∷◌, length, take, drop, refl, sym, ap, ◌∙◌, arith}
use Rattle.std.specs.Prelude.{Option, None, Some, unwrap_or, option_map, if◌then◌else◌}
use Rattle.std.proofs.lemmas.Grind.{common_steps}
use Rattle.std.proofs.lemmas.List.{take_all}
use Rattle.memchr.specs.Find.{IsFirstByte, Nowhere, Passes, is_byte, is_byte2}
use Rattle.ossl_property.specs.Bytes.{front, past}
use Rattle.ossl_commands.specs.Lines.{is_within_line, is_within_word}
use Rattle.ossl_commands.specs.Words.{cut_at}

-- so many bytes are the longest run of bytes that fail the test
record IsRun (test : ℕ → Bool) (text : List ℕ) (k : ℕ) : Type 0 where
  within : k ≤ length text
  run : take k text ≡ front (λ b. not (test b)) text
  rest : drop k text ≡ past (λ b. not (test b)) text

-- one byte more that fails
run_more : (test : ℕ → Bool) (byte : ℕ) (text : List ℕ) (k : ℕ) → ¬ (test byte ≡ true) → IsRun test text k → IsRun test (byte ∷ text) (suc k)
run_more test byte text k fails run = at (test byte) refl
  where
    at : (b : Bool) → test byte ≡ b → IsRun test (byte ∷ text) (suc k)
    at true is = absurd (fails is)
    at false is = record {
      within = omega (arith, run.within);
      run = ap (λ (t : List ℕ). byte ∷ t) run.run ∙ sym (ap (λ b. cond (not b) (byte ∷ front (λ b. not (test b)) text) []) is);
      rest = run.rest ∙ sym (ap (λ b. cond (not b) (past (λ b. not (test b)) text) (byte ∷ text)) is);
    }

run_found : (test : ℕ → Bool) (text : List ℕ) (k : ℕ) → k < length text → Nowhere (Passes test text) 0 k → Passes test text k → IsRun test text k
run_found test [] k within none is = absurd (omega (arith, within))
run_found test (byte ∷ text) zero within none is = record {
  within = omega arith;
  run = sym (ap (λ b. cond (not b) (byte ∷ front (λ b. not (test b)) text) []) is);
  rest = sym (ap (λ b. cond (not b) (past (λ b. not (test b)) text) (byte ∷ text)) is);
}
run_found test (byte ∷ text) (suc k) within none is =
    run_more test byte text k (none 0 (omega arith) (omega arith))
    (run_found test text k (omega (arith, within)) (λ j low high. none (suc j) (omega arith) (omega (arith, high))) is)

run_none : (test : ℕ → Bool) (text : List ℕ) → Nowhere (Passes test text) 0 (length text) → IsRun test text (length text)
run_none test [] none = record { within = omega arith; run = refl; rest = refl }
run_none test (byte ∷ text) none =
    run_more test byte text (length text) (none 0 (omega arith) (omega arith))
    (run_none test text (λ j low high. none (suc j) (omega arith) (omega (arith, high))))

-- the run up to what a search finds
run_by : (test : ℕ → Bool) (text : List ℕ) (r : Option ℕ) → IsFirstByte test text r → IsRun test text (unwrap_or r (length text))
run_by test text None none = run_none test text none
run_by test text (Some k) found = run_found test text k found.0.high found.0.before found.1

pub within_by : (test : ℕ → Bool) (text : List ℕ) (r : Option ℕ) → IsFirstByte test text r → unwrap_or r (length text) ≤ length text
within_by test text r found = (run_by test text r found).within

pub line_by : (text : List ℕ) (r : Option ℕ) → IsFirstByte (is_byte 10) text r → take (unwrap_or r (length text)) text ≡ front is_within_line text
line_by text r found = (run_by (is_byte 10) text r found).run

pub behind_line_by : (text : List ℕ) (r : Option ℕ) → IsFirstByte (is_byte 10) text r → drop (unwrap_or r (length text)) text ≡ past is_within_line text
behind_line_by text r found = (run_by (is_byte 10) text r found).rest

pub word_by : (text : List ℕ) (r : Option ℕ) → IsFirstByte (is_byte2 32 9) text r → take (unwrap_or r (length text)) text ≡ front is_within_word text
word_by text r found = (run_by (is_byte2 32 9) text r found).run

pub behind_word_by : (text : List ℕ) (r : Option ℕ) → IsFirstByte (is_byte2 32 9) text r → drop (unwrap_or r (length text)) text ≡ past is_within_word text
behind_word_by text r found = (run_by (is_byte2 32 9) text r found).rest

-- a text is cut at the byte that a search finds
cut_more : (separator byte : ℕ) (text : List ℕ) → ¬ (is_byte separator byte ≡ true) → cut_at separator (byte ∷ text) ≡ option_map (λ parts. (byte ∷ parts.0, parts.1)) (cut_at separator text)
cut_more separator byte text fails = at (is_byte separator byte) refl
  where
    at : (b : Bool) → is_byte separator byte ≡ b → cut_at separator (byte ∷ text) ≡ option_map (λ parts. (byte ∷ parts.0, parts.1)) (cut_at separator text)
    at true is = absurd (fails is)
    at false is = ap (λ b. if b then Some ([], text) else option_map (λ parts. (byte ∷ parts.0, parts.1)) (cut_at separator text)) is

cut_found : (separator : ℕ) (text : List ℕ) (k : ℕ) → k < length text → Nowhere (Passes (is_byte separator) text) 0 k → Passes (is_byte separator) text k
    → cut_at separator text ≡ Some (take k text, drop (suc k) text)
cut_found separator [] k within none is = absurd (omega (arith, within))
cut_found separator (byte ∷ text) zero within none is = ap (λ b. if b then Some ([], text) else option_map (λ parts. (byte ∷ parts.0, parts.1)) (cut_at separator text)) is
cut_found separator (byte ∷ text) (suc k) within none is =
    cut_more separator byte text (none 0 (omega arith) (omega arith))
    ∙ ap (option_map (λ parts. (byte ∷ parts.0, parts.1))) (cut_found separator text k (omega (arith, within)) (λ j low high. none (suc j) (omega arith) (omega (arith, high))) is)

cut_none : (separator : ℕ) (text : List ℕ) → Nowhere (Passes (is_byte separator) text) 0 (length text) → cut_at separator text ≡ None
cut_none separator [] none = refl
cut_none separator (byte ∷ text) none =
    cut_more separator byte text (none 0 (omega arith) (omega arith))
    ∙ ap (option_map (λ parts. (byte ∷ parts.0, parts.1))) (cut_none separator text (λ j low high. none (suc j) (omega arith) (omega (arith, high))))

-- the same of the parts as slices
pub cut_by : (separator : ℕ) (text : List ℕ) (r : Option ℕ) (k : ℕ) → r ≡ Some k → IsFirstByte (is_byte separator) text r
    → Some (take k text, take (length text - (k + 1)) (drop (k + 1) text)) ≡ cut_at separator text
cut_by separator text None k is found = absurd cc
cut_by separator text (Some j) k is found =
    let same : k ≡ j = cc in
    let lt : j < length text = found.0.high in
    let all : take (length text - (j + 1)) (drop (j + 1) text) ≡ drop (j + 1) text = take_all (length text - (j + 1)) (drop (j + 1) text) (grind (arith, common_steps)) in
    let next : j + 1 ≡ suc j = omega arith in
    rw (same, all, next) (sym (cut_found separator text j lt found.0.before found.1))

pub uncut_by : (separator : ℕ) (text : List ℕ) (r : Option ℕ) → r ≡ None → IsFirstByte (is_byte separator) text r → cut_at separator text ≡ None
uncut_by separator text None is none = cut_none separator text none
uncut_by separator text (Some k) is found = absurd cc
