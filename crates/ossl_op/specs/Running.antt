-- The one relation between an operation context and its work: what the algorithm's state makes of whatever bytes come
-- yet, put
-- after what was given, is the standard's result of all bytes.
use Rattle.std.specs.Prelude.{◌≡◌, ℕ, List, [], ◌++◌, Option, Some, Result, Ok, Err}
use Rattle.std.specs.Option.{option_and_then}
use Rattle.ossl_codes.specs.declared.code.Bits.{Bits}
use Rattle.ossl_codes.specs.declared.code.Code.{Code}
use Rattle.ossl_codes.specs.declared.code.Code.TheVariants.{Hkdf}
use Rattle.ossl_digests.specs.declared.digester.Digester.{Digester}
use Rattle.ossl_digests.specs.declared.hash.Hash.{Hash}
use Rattle.ossl_digests.specs.Digest.{digest}
use Rattle.ossl_digests.specs.Holds as bytes
use Rattle.ossl_hmac.specs.declared.hmac.Hmac.{Hmac}
use Rattle.ossl_hmac.specs.Hmac.{hmac}
use Rattle.ossl_hmac.specs.Holds as keyed
use Rattle.ossl_aes.specs.declared.block.Block.{Ghosts}
use Rattle.ossl_modes.specs.declared.kinds.FinishRefused.{FinishRefused}
use Rattle.ossl_modes.specs.declared.kinds.FinishRefused.TheVariants.{StreamEnd}
use Rattle.ossl_modes.specs.declared.state.Mode.{Mode}
use Rattle.ossl_modes.specs.Modes.{before}
use Rattle.ossl_modes.specs.Run.{outcome_of, whole_blocks_of}
use Rattle.ossl_cmac.specs.declared.state.Cmac.{Cmac}
use Rattle.ossl_cmac.specs.Run.{mac_of}
use Rattle.ossl_chacha.specs.declared.chacha.StreamEnd.{StreamEnd as TheEnd}
use Rattle.ossl_chacha.specs.KeyStream.{ChaChaState, text_of}
use Rattle.ossl_chacha.specs.Ends.{end_of}
use Rattle.ossl_legacy.specs.Rc4State.{Rc4State, text_of as rc4_text}
use Rattle.ossl_op.specs.declared.derived.Derived.{Derived}
use Rattle.ossl_op.specs.declared.context.State.{State}
use Rattle.ossl_op.specs.declared.context.State.TheVariants as state
use Rattle.ossl_op.specs.declared.context.OpCtx.{OpCtx}
use Rattle.ossl_op.specs.declared.params.BeginRefused.{BeginRefused}
use Rattle.ossl_op.specs.declared.params.BeginRefused.TheVariants.{NoMemory}
use Rattle.ossl_op.specs.declared.params.Params.{Params}
use Rattle.ossl_op.specs.Tables.{cbc_bits}
use Rattle.ossl_op.specs.Work.{Work, begun, result_with, unchecked_with}

-- nothing is given before the end, and then this text, by the bytes that come yet
pub record GivesAtEnd (work : Work) (text : List ℕ → List ℕ) : Type 0 where
  pub nothing : work.given ≡ []
  pub text_is : (rest : List ℕ) → result_with work rest ≡ Ok (text rest)

-- a digest of all bytes fed (FIPS 180-4, RFC 1321, RFC 1320)
pub record RunsDigest (digester : Digester) (work : Work) : Type 0 where
  pub hash : Hash
  pub holds : bytes.Holds digester hash work.fed
  pub at_end : GivesAtEnd work (λ rest. digest hash (work.fed ++ rest))

-- an HMAC of all bytes fed (FIPS 198-1)
pub record RunsHmac (mac : Hmac) (work : Work) : Type 0 where
  pub hash : Hash
  pub key : List ℕ
  pub holds : keyed.Holds mac hash key work.fed
  pub at_end : GivesAtEnd work (λ rest. hmac hash key (work.fed ++ rest))

-- a CMAC of all bytes fed (SP 800-38B)
abbrev pub RunsCmac : {C : Type 0} {g : Ghosts C} → Cmac C g → Work → Type 0
RunsCmac mac work = GivesAtEnd work (λ rest. mac_of mac rest)

-- the bytes of HKDF, whatever comes yet (RFC 5869)
abbrev pub RunsHkdf : Derived → Work → Type 0
RunsHkdf derived work = GivesAtEnd work (λ rest. derived.bytes.items)

-- a text through a mode of AES (FIPS 197, SP 800-38A)
pub record RunsMode {C : Type 0} {g : Ghosts C} (mode : Mode C g) (work : Work) : Type 0 where
  pub text_is : (rest : List ℕ) → result_with work rest ≡ before work.given (outcome_of mode rest)
  pub unchecked_is : (rest : List ℕ) → unchecked_with work rest ≡ work.given ++ whole_blocks_of mode rest

-- a text of a key stream, or the refusal where the stream ends before it
abbrev pub streamed : List ℕ → Result (Unit {0}) TheEnd → Result (List ℕ) FinishRefused
streamed text (Ok _) = Ok text
streamed text (Err end) = Err (StreamEnd end.blocks)

-- a text through ChaCha20 (RFC 8439)
pub record RunsChaCha (stream : ChaChaState) (work : Work) : Type 0 where
  pub text_is : (rest : List ℕ)
      → result_with work rest ≡ streamed (work.given ++ text_of stream rest) (end_of stream rest)
  pub unchecked_is : (rest : List ℕ) → unchecked_with work rest ≡ work.given ++ text_of stream rest

-- a text through RC4
abbrev pub RunsRc4 : Rc4State → Work → Type 0
RunsRc4 stream work = (rest : List ℕ) → result_with work rest ≡ Ok (work.given ++ rc4_text stream rest)

-- the algorithm's state runs this work
abbrev pub RunsState : State → Work → Type 0
RunsState (state.Digest digester) work = RunsDigest digester work
RunsState (state.Aes128 mode) work = RunsMode mode work
RunsState (state.Aes192 mode) work = RunsMode mode work
RunsState (state.Aes256 mode) work = RunsMode mode work
RunsState (state.ChaCha20 stream) work = RunsChaCha stream work
RunsState (state.Rc4 stream) work = RunsRc4 stream work
RunsState (state.Hmac mac) work = RunsHmac mac work
RunsState (state.Cmac128 mac) work = RunsCmac mac work
RunsState (state.Cmac192 mac) work = RunsCmac mac work
RunsState (state.Cmac256 mac) work = RunsCmac mac work
RunsState (state.Hkdf derived) work = RunsHkdf derived work

-- the context runs this work: its code, inner code and parameters, on the bytes fed, of which it gave this
abbrev pub Runs : OpCtx → Work → Type 0
Runs context work = RunsState context.state work

-- the context runs the code's work before any byte, whichever inner code it came with
abbrev pub RunsAlone : Code → Params → OpCtx → Type 0
RunsAlone code params context = (inner : Option Code) → Runs context (begun code inner params)

-- likewise on the cipher of this key length
abbrev pub RunsOnCipher : Code → Bits → Params → OpCtx → Type 0
RunsOnCipher code bits params context =
    (inner : Option Code) → option_and_then cbc_bits inner ≡ Some bits → Runs context (begun code inner params)

-- want of memory, which a key derivation alone has where it begins
abbrev pub IsWantOfMemory : Code → BeginRefused → Type 0
IsWantOfMemory code refusal = (refusal ≡ NoMemory) × (code ≡ Hkdf)
