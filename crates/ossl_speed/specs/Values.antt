-- What each algorithm gives of a message. Keys and the like are messages too: bytes that count up from 0.
use Rattle.std.specs.Prelude.{ℕ, ◌-◌, List, length, drop}
use Rattle.ossl_digests.specs.Digest.{digest}
use Rattle.ossl_hmac.specs.Hmac as M
use Rattle.ossl_hkdf.specs.Hkdf as K
use Rattle.ossl_hkdf.specs.declared.mode.HkdfMode.TheVariants.{Both}
use Rattle.ossl_chacha.specs.KeyStream as C
use Rattle.ossl_legacy.specs.Rc4State as R
use Rattle.ossl_cmac.specs.Cmac as T
use Rattle.ossl_speed.specs.declared.algorithm.Algorithm.{Algorithm}
use Rattle.ossl_speed.specs.declared.algorithm.Algorithm.TheVariants.{Digest, Hmac, Hkdf, ChaCha20, Rc4, Aes}
use Rattle.ossl_speed.specs.declared.algorithm.AesWork.{AesWork}
use Rattle.ossl_speed.specs.declared.algorithm.AesWork.TheVariants.{Mode, Chain, Cmac, Gcm}
use Rattle.ossl_speed.specs.Message.{message}
use Rattle.ossl_speed.specs.Aes.{words_of, enc, dec, mode_text, chain_end, gcm_text}

-- the last n bytes of a list, or all of a shorter one
abbrev pub last : ℕ → List ℕ → List ℕ
last n bytes = drop (length bytes - n) bytes

-- what AES with a key of nk words gives of a message; of a text the last 64 bytes
abbrev pub aes_value : ℕ → AesWork → List ℕ → List ℕ
aes_value nk (Mode kind decrypt) m = last 64 (mode_text (enc nk) (dec nk) kind decrypt m)
aes_value nk (Chain decrypt) m = chain_end (enc nk) (dec nk) decrypt m
aes_value nk Cmac m = T.cmac (enc nk) m
aes_value nk Gcm m = last 64 (gcm_text (enc nk) m)

-- what an algorithm gives of a message; of a text the last 64 bytes
abbrev pub value_of : Algorithm → List ℕ → List ℕ
value_of (Digest hash) m = digest hash m
value_of (Hmac hash) m = M.hmac hash (message 20) m
value_of (Hkdf hash) m = K.hkdf Both hash m (message 13) (message 10) 42
value_of ChaCha20 m = last 64 (C.text_of (C.stream_of (message 32) (message 16)) m)
value_of Rc4 m = last 64 (R.rc4 (message 16) m)
value_of (Aes size work) m = aes_value (words_of size) work m
