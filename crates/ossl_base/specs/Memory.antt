-- Sources, sinks and files in memory: what contracts see of them, and what a call does.
use Rattle.std.specs.Prelude.{ℕ, ◌-◌, Bool, ◌&&◌, ◌||◌, cond, nat_eq, nat_lt, min, List, ◌++◌, length, take, drop}
use Rattle.std.specs.Prelude.{is_some, is_none}
use Rattle.ossl_base.specs.Causes.{count_after}
use Rattle.ossl_base.specs.Files.{Entries, content_of}
use Rattle.ossl_base.specs.Members.{is_in}

-- the call that comes next, counted from 1, is one that is to fail
abbrev pub is_listed : ℕ → List ℕ → Bool
is_listed calls fail = is_in (count_after calls) fail

-- a source: the bytes left, how many a call gives at most, the calls that are to fail, the calls and faults so far
pub record SourceView : Type 0 where
  pub left : List ℕ
  pub most : ℕ
  pub fail : List ℕ
  pub calls : ℕ
  pub faults : ℕ

-- the next read fails
abbrev pub read_fails : SourceView → Bool
read_fails s = is_listed s.calls s.fail

-- how many bytes the next read gives into room for n, where it does not fail
abbrev pub read_count : SourceView → ℕ → ℕ
read_count s n = min s.most (min n (length s.left))

-- the source after a read into room for n
abbrev pub after_read : SourceView → ℕ → SourceView
after_read s n =
    cond (read_fails s)
    (record s { calls = count_after s.calls; faults = count_after s.faults })
    (record s { calls = count_after s.calls; left = drop (read_count s n) s.left })

-- a sink: the bytes taken, the room for them, how many a call takes at most, the calls that are to fail, the calls and
-- faults so far
pub record SinkView : Type 0 where
  pub taken : List ℕ
  pub room : ℕ
  pub most : ℕ
  pub fail : List ℕ
  pub calls : ℕ
  pub faults : ℕ

-- the next write, of n bytes, fails: it is listed, or there are bytes and no room
abbrev pub write_fails : SinkView → ℕ → Bool
write_fails s n = is_listed s.calls s.fail || (nat_lt 0 n && nat_eq s.room (length s.taken))

-- how many of n bytes the next write takes, where it does not fail
abbrev pub write_count : SinkView → ℕ → ℕ
write_count s n = min s.most (min n (s.room - length s.taken))

-- the sink after a write
abbrev pub after_write : SinkView → List ℕ → SinkView
after_write s bytes =
    cond (write_fails s (length bytes))
    (record s { calls = count_after s.calls; faults = count_after s.faults })
    (record s { calls = count_after s.calls; taken = s.taken ++ take (write_count s (length bytes)) bytes })

-- files: each name beside its content, the calls that are to fail, the calls and faults so far
pub record FilesView : Type 0 where
  pub entries : Entries
  pub fail : List ℕ
  pub calls : ℕ
  pub faults : ℕ

-- the next reading of this name fails: the name is not there, or it is listed
abbrev pub reading_fails : FilesView → List ℕ → Bool
reading_fails s name = is_none (content_of s.entries name) || is_listed s.calls s.fail

-- the files after a reading of this name: a listed one is counted as a fault where the name is there
abbrev pub after_reading : FilesView → List ℕ → FilesView
after_reading s name =
    cond (is_some (content_of s.entries name) && is_listed s.calls s.fail)
    (record s { calls = count_after s.calls; faults = count_after s.faults })
    (record s { calls = count_after s.calls })
