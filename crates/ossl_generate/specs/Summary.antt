-- What is told of a generated batch that was run.
use Rattle.std.specs.Prelude.{ℕ, Bool, List, ◌++◌, codes, take}
use Rattle.std.specs.Fmt.{decimal}
use Rattle.std.specs.Str.{bytes_eq}
use Rattle.hex.specs.Hex.{encode_lower}
use Rattle.sha2.specs.Sha256.{sha256}
use Rattle.ossl_generate.specs.declared.summary.Summary.{Summary}

-- a good result begins with `ok`
abbrev pub is_good : List ℕ → Bool
is_good text = bytes_eq (take 2 text) (codes "ok")

-- the batch by its three numbers
abbrev pub batch_line : Summary → List ℕ
batch_line told =
    codes "gen " ++ decimal told.lines ++ codes " " ++ decimal told.seed
    ++ codes " callers " ++ decimal told.callers ++ codes "\n"

-- how many lines there were, and how many of their results were good
abbrev pub lines_line : Summary → List ℕ
lines_line told = codes "lines " ++ decimal told.lines ++ codes " ok " ++ decimal told.good ++ codes "\n"

-- how many entries the history has
abbrev pub entries_line : Summary → List ℕ
entries_line told = codes "entries " ++ decimal told.entries ++ codes "\n"

-- the SHA-256 of the printed results (FIPS 180-4)
abbrev pub digest_line : List ℕ → List ℕ
digest_line results = codes "sha256 " ++ encode_lower (sha256 results) ++ codes "\n"

abbrev pub summary_text : Summary → List ℕ → List ℕ
summary_text told results = batch_line told ++ lines_line told ++ entries_line told ++ digest_line results
