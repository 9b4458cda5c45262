-- A value is read where the token that comes next is one, and that token is what is read.
use Rattle.std.proofs.Common.{◌≡◌, ℕ, eqb, Bool, true, false, not, cond, ◌||◌, inl, inr, List, [], ◌∷◌, ◌++◌, take, Option, Some, None, Result, Ok, Err, refl, sym, ap, subst, ◌∙◌, append_assoc, append-nil}
use Rattle.std.specs.List.{list_all}
use Rattle.std.proofs.lemmas.Bool.{eqb-true, and_from, or_cases}
use Rattle.ossl_property.specs.declared.clause.Value.{Value}
use Rattle.ossl_property.specs.declared.clause.Value.TheVariants.{Text}
use Rattle.ossl_property.specs.Bytes.{is_quote, is_value_byte, front, past}
use Rattle.ossl_property.specs.Grammar.{is_quotable}
use Rattle.ossl_property.specs.Reading.{plain_value, or_fault, plain_at, closed_at, quoted_at, value_at}
use Rattle.ossl_property.specs.Tokens.{quoted, value_token, other_token, token}
use Rattle.ossl_property.proofs.Runs.{front_past, front_at_past, past_front, front_run, past_run}
use Rattle.ossl_property.proofs.FoundLists.{first_fails}
use Rattle.ossl_property.proofs.Course.{reads_whole, is_value}

-- a run passes
pub front_passes : (test : ℕ → Bool) (text : List ℕ) → list_all test (front test text) ≡ true
front_passes test [] = refl
front_passes test (byte ∷ text) = cases (front_passes test text) (test byte) refl
  where
    cases : list_all test (front test text) ≡ true → (t : Bool) → test byte ≡ t → list_all test (cond t (byte ∷ front test text) []) ≡ true
    cases h true e = and_from (test byte) (list_all test (front test text)) e h
    cases h false e = refl

-- a run, read alone
front_front : (test : ℕ → Bool) (text : List ℕ) → front test (front test text) ≡ front test text
front_front test text = ap (front test) (sym (append-nil (front test text))) ∙ front_run test (front test text) [] (front_passes test text) refl

-- a run and the byte that ends it, read alone
ended_front : (test : ℕ → Bool) (text : List ℕ) (close : ℕ) (rest : List ℕ) → past test text ≡ close ∷ rest → front test (close ∷ []) ≡ []
ended_front test text close rest h = first_fails test close rest [] (ap (front test) (sym h) ∙ front_at_past test text)

-- what reading a value gives, and the token that comes next
abbrev pub ValueOutcome : List ℕ → Result (Value × List ℕ) (List ℕ) → Type 0
ValueOutcome text (Ok x) = (text ≡ token true text ++ x.1) × (is_value (token true text) ≡ true)
ValueOutcome text (Err bad) = (bad ≡ text) × (is_value (token true text) ≡ false)

-- ---- values without quotes

chosen : (text rest run : List ℕ) (o : Option Value) → token true text ≡ run → text ≡ run ++ rest → is_value run ≡ reads_whole (or_fault run [] o) → ValueOutcome text (or_fault text rest o)
chosen text rest run None at whole reads = (refl, ap is_value at ∙ reads)
chosen text rest run (Some value) at whole reads = (whole ∙ ap (λ (w : List ℕ). w ++ rest) (sym at), ap is_value at ∙ reads)

plain_reads : (byte : ℕ) (word : List ℕ) → is_quote byte ≡ false → front is_value_byte (byte ∷ word) ≡ byte ∷ word → is_value (byte ∷ word) ≡ reads_whole (or_fault (byte ∷ word) [] (plain_value (byte ∷ word)))
unfolding value_at plain_at
plain_reads byte word no_quote run =
    let none : past is_value_byte (byte ∷ word) ≡ [] = ap (past is_value_byte) (sym run) ∙ past_front is_value_byte (byte ∷ word) in
    let first : is_value (byte ∷ word) ≡ reads_whole (plain_at (byte ∷ word)) = λ i. reads_whole (cond (no_quote i) (quoted_at byte (byte ∷ word) word) (plain_at (byte ∷ word))) in
    first ∙ (λ i. reads_whole (or_fault (byte ∷ word) (none i) (plain_value (run i))))

-- a comma or a space is no value
no_value : (byte : ℕ) (text : List ℕ) → is_value_byte byte ≡ false → is_value (other_token byte text) ≡ false
unfolding value_at plain_at plain_value
no_value byte text h = elim (or_cases (eqb byte 32) (eqb byte 44) (either (eqb byte 32 || eqb byte 44) h)) [
  | inl p ↦ ap (λ (b : ℕ). is_value (other_token b text)) (eqb-true byte 32 p)
  | inr p ↦ ap (λ (b : ℕ). is_value (other_token b text)) (eqb-true byte 44 p)
]
  where
    either : (t : Bool) → not t ≡ false → t ≡ true
    either true h = refl
    either false h = absurd cc

plain_outcome : (byte : ℕ) (text : List ℕ) → is_quote byte ≡ false → ValueOutcome (byte ∷ text) (plain_at (byte ∷ text))
unfolding plain_at plain_value
plain_outcome byte text no_quote = cases (is_value_byte byte) refl
  where
    whole : List ℕ
    whole = byte ∷ text

    cases : (t : Bool) → is_value_byte byte ≡ t → ValueOutcome whole (or_fault whole (past is_value_byte whole) (plain_value (front is_value_byte whole)))
    cases true h =
        let run : front is_value_byte whole ≡ byte ∷ front is_value_byte text = λ i. cond (h i) (byte ∷ front is_value_byte text) [] in
        let at : token true whole ≡ byte ∷ front is_value_byte text = λ i. cond (h i) (cond (no_quote i) (quoted byte text) (byte ∷ front is_value_byte text)) (other_token byte text) in
        let again : front is_value_byte (byte ∷ front is_value_byte text) ≡ byte ∷ front is_value_byte text = ap (front is_value_byte) (sym run) ∙ front_front is_value_byte whole ∙ run in
        subst (λ (r : List ℕ). ValueOutcome whole (or_fault whole (past is_value_byte whole) (plain_value r))) (sym run)
        (chosen whole (past is_value_byte whole) (byte ∷ front is_value_byte text) (plain_value (byte ∷ front is_value_byte text)) at (sym (front_past is_value_byte whole) ∙ ap (λ (r : List ℕ). r ++ past is_value_byte whole) run) (plain_reads byte (front is_value_byte text) no_quote again))
    cases false h =
        let run : front is_value_byte whole ≡ [] = λ i. cond (h i) (byte ∷ front is_value_byte text) [] in
        let at : token true whole ≡ other_token byte text = λ i. cond (h i) (value_token byte text) (other_token byte text) in
        subst (λ (r : List ℕ). ValueOutcome whole (or_fault whole (past is_value_byte whole) (plain_value r))) (sym run) (refl, ap is_value at ∙ no_value byte text h)

-- ---- quoted values

quote_value_byte : (byte : ℕ) → is_quote byte ≡ true → is_value_byte byte ≡ true
quote_value_byte byte h = elim (or_cases (eqb byte 39) (eqb byte 34) h) [ inl p ↦ ap is_value_byte (eqb-true byte 39 p) | inr p ↦ ap is_value_byte (eqb-true byte 34 p) ]

closed_reads : (quote : ℕ) (inner after rest : List ℕ) → is_quote quote ≡ true → front (λ byte. not (eqb byte quote)) (inner ++ after) ≡ inner → past (λ byte. not (eqb byte quote)) (inner ++ after) ≡ after
    → is_value (quote ∷ (inner ++ after)) ≡ reads_whole (closed_at quote (quote ∷ (inner ++ after)) inner after)
unfolding value_at
closed_reads quote inner after rest q run ends =
    let all : List ℕ = quote ∷ (inner ++ after) in
    (λ i. reads_whole (cond (q i) (quoted_at quote all (inner ++ after)) (plain_at all))) ∙ (λ i. reads_whole (closed_at quote all (run i) (ends i)))

quoted_outcome : (quote : ℕ) (text : List ℕ) → is_quote quote ≡ true → ValueOutcome (quote ∷ text) (quoted_at quote (quote ∷ text) text)
quoted_outcome quote text q = cases (past ne text) refl
  where
    ne : ℕ → Bool
    ne byte = not (eqb byte quote)

    whole : List ℕ
    whole = quote ∷ text

    inner : List ℕ
    inner = front ne text

    at : token true whole ≡ quote ∷ (inner ++ take 1 (past ne text))
    at = λ i. cond (quote_value_byte quote q i) (cond (q i) (quoted quote text) (quote ∷ front is_value_byte text)) (other_token quote text)

    judged : (close : ℕ) (rest : List ℕ) (t : Bool) → is_quotable quote inner ≡ t → token true whole ≡ quote ∷ (inner ++ close ∷ []) → whole ≡ (quote ∷ (inner ++ close ∷ [])) ++ rest
        → is_value (quote ∷ (inner ++ close ∷ [])) ≡ reads_whole (cond (is_quotable quote inner) (Ok (Text inner, [])) (Err (quote ∷ (inner ++ close ∷ [])))) → ValueOutcome whole (cond t (Ok (Text inner, rest)) (Err whole))
    judged close rest true e token_is parts reads = (parts ∙ ap (λ (w : List ℕ). w ++ rest) (sym token_is), ap is_value token_is ∙ reads ∙ (λ i. reads_whole (cond (e i) (Ok (Text inner, [])) (Err (quote ∷ (inner ++ close ∷ []))))))
    judged close rest false e token_is parts reads = (refl, ap is_value token_is ∙ reads ∙ (λ i. reads_whole (cond (e i) (Ok (Text inner, [])) (Err (quote ∷ (inner ++ close ∷ []))))))

    cases : (behind : List ℕ) → past ne text ≡ behind → ValueOutcome whole (closed_at quote whole inner behind)
    cases [] h =
        let token_is : token true whole ≡ quote ∷ (inner ++ []) = at ∙ ap (λ (r : List ℕ). quote ∷ (inner ++ take 1 r)) h in
        (refl, ap is_value token_is ∙ closed_reads quote inner [] [] q (front_run ne inner [] (front_passes ne text) refl) (past_run ne inner [] (front_passes ne text) refl))
    cases (close ∷ rest) h =
        let token_is : token true whole ≡ quote ∷ (inner ++ close ∷ []) = at ∙ ap (λ (r : List ℕ). quote ∷ (inner ++ take 1 r)) h in
        let ends = ended_front ne text close rest h in
        let parts : whole ≡ (quote ∷ (inner ++ close ∷ [])) ++ rest = ap (λ (t : List ℕ). quote ∷ t) (sym (front_past ne text) ∙ ap (λ (r : List ℕ). inner ++ r) h ∙ sym (append_assoc inner (close ∷ []) rest)) in
        judged close rest (is_quotable quote inner) refl token_is parts (closed_reads quote inner (close ∷ []) rest q (front_run ne inner (close ∷ []) (front_passes ne text) ends) (past_run ne inner (close ∷ []) (front_passes ne text) ends))

pub value_outcome : (text : List ℕ) → ValueOutcome text (value_at text)
unfolding value_at
value_outcome [] = (refl, refl)
value_outcome (byte ∷ text) = cases (is_quote byte) refl
  where
    cases : (t : Bool) → is_quote byte ≡ t → ValueOutcome (byte ∷ text) (cond t (quoted_at byte (byte ∷ text) text) (plain_at (byte ∷ text)))
    cases true h = quoted_outcome byte text h
    cases false h = plain_outcome byte text h
