-- Worked runs by computation: whose turn it is, the program's own calls, and a run whose opening is refused.
use Rattle.std.proofs.Common.{◌≡◌, ℕ, true, false, List, [], ◌∷◌, ◌++◌, refl}
use Rattle.std.specs.Prelude.{codes, None, Some, Result, Ok, Err}
use Rattle.std.specs.Fmt.{digits}
use Rattle.hex.specs.Hex.{decode_pairs}
use Rattle.ossl_base.specs.declared.entry.Entry.{Entry}
use Rattle.ossl_provider.specs.Sheet.{Facts}
use Rattle.ossl_codes.specs.declared.code.Code.TheVariants.{Md5, Sha256}
use Rattle.ossl_codes.specs.declared.code.Operation.TheVariants.{Digest}
use Rattle.ossl_property.specs.Reading.{list_at}
use Rattle.ossl_property.specs.Said.{query_said}
use Rattle.ossl_state.specs.declared.call.Call.{Call}
use Rattle.ossl_state.specs.declared.call.Call.TheVariants.{Load, Unload, SetDefault, Fetch, Free, NewCtx, FreeCtx, CloseLib}
use Rattle.ossl_state.specs.declared.call.Reply.{Reply}
use Rattle.ossl_state.specs.declared.call.Reply.TheVariants.{Loaded, Fetched, Made, Done, NoProvider}
use Rattle.ossl_state.specs.History.{Fixed, IsLegal}
use Rattle.ossl_conf.specs.View.{SettingsView}
use Rattle.ossl_commands.specs.declared.command.Line.{Line}
use Rattle.ossl_commands.specs.Judging.{Commands, Fault, commands_of}
use Rattle.ossl_print.specs.Batched.{Batch}
use Rattle.ossl_ordered.specs.Opening.{IsEnded, IsOpened, closing_calls, opening_calls}
use Rattle.ossl_ordered.specs.Turns.{IsInTurn, IsRefusedRun, IsRunInOrder, lines_from}

-- 1. What the runs are written with.

abbrev pub lines_in : Result Commands Fault → List Line
lines_in (Ok said) = said.lines
lines_in (Err fault) = []

-- a batch of this text, without files
abbrev pub batch_of : List ℕ → Batch
batch_of text = record { lines = lines_in (commands_of text); contents = [] }

abbrev pub entry : ℕ → Call → Reply → Entry Call Reply
entry c call reply = record { caller = c; call = call; reply = reply }

-- a box without rows
abbrev box : List ℕ → Facts
box name = record { name = name; rows = []; admits = λ code len. true }

abbrev no_settings : SettingsView
no_settings = record { activations = []; default_query = None }

-- 2. Two callers that load and unload, in the order of the text; at the end the second gives back what it holds.

abbrev loads : Batch
loads = batch_of (codes "1 load 0 A X\n2 load 0 B Y\n2 load 0 A Z\n1 unload X\n1 free M")

abbrev loads_run : List (Entry Call Reply)
loads_run =
    entry 1 (Load 0 (codes "A") false) (Loaded 1 1 0)
    ∷ entry 2 (Load 0 (codes "B") false) (Loaded 2 2 0)
    ∷ entry 2 (Load 0 (codes "A") false) (Loaded 3 1 0)
    ∷ entry 1 (Unload 1) Done
    ∷ []

abbrev loads_ended : List (Entry Call Reply)
loads_ended = loads_run ++ entry 2 (Unload 3) Done ∷ entry 2 (Unload 2) Done ∷ entry 0 (CloseLib 0) Done ∷ []

abbrev two_boxes : Fixed
two_boxes = record {
  facts = box (codes "A") ∷ box (codes "B") ∷ [];
  contexts = 1;
  opened = 0 ∷ 0 ∷ [];
}

pub loads_in_order : IsRunInOrder no_settings loads [] loads_ended
unfolding digits
loads_in_order = record {
  opening = [];
  turns = loads_run;
  returning = entry 2 (Unload 3) Done ∷ entry 2 (Unload 2) Done ∷ [];
  closing = entry 0 (CloseLib 0) Done ∷ [];
  parts = refl;
  opened = record { caller = refl; calls = refl; loaded = refl };
  in_turn = (
    record { turn = record { caller = 1; line = 1 }; rest = [] },
    refl,
    record { caller = refl; call = refl },
    (
      record { turn = record { caller = 2; line = 2 }; rest = [] },
      refl,
      record { caller = refl; call = refl },
      (
        record { turn = record { caller = 2; line = 3 }; rest = [] },
        refl,
        record { caller = refl; call = refl },
        (record { turn = record { caller = 1; line = 4 }; rest = [] }, refl, record { caller = refl; call = refl }, refl),
      ),
    ),
  );
  returned = refl;
  closed = record { caller = refl; calls = refl };
}

-- and it is a legal history over these boxes
pub loads_legal : IsLegal two_boxes loads_ended
loads_legal = (
  record { allowed = record { lib = refl; tokens = refl }; answers = (refl, refl) },
  (
    record { allowed = record { lib = refl; tokens = refl }; answers = (refl, refl) },
    (
      record { allowed = record { lib = refl; tokens = refl }; answers = (refl, refl) },
      (
        record { allowed = record { lib = refl; tokens = refl }; answers = refl },
        (
          record { allowed = record { lib = refl; tokens = refl }; answers = refl },
          (record { allowed = record { lib = refl; tokens = refl }; answers = refl }, (record { allowed = record { lib = refl; tokens = refl }; answers = refl }, tt)),
        ),
      ),
    ),
  ),
)

-- the lines of which the calls are, one after the other
pub loads_lines : lines_from loads [] loads_run ≡ 1 ∷ 2 ∷ 3 ∷ 4 ∷ []
unfolding digits
loads_lines = refl

-- 3. Two whole operations by the turns of a list.

abbrev two_digests : Batch
two_digests = batch_of (codes "1 dgst SHA2-256 hex:616263\n2 dgst MD5")

pub by_a_list : IsInTurn two_digests (2 ∷ 1 ∷ 2 ∷ 1 ∷ []) [] (
    entry 2 (Fetch 0 Digest (codes "MD5") []) (Fetched 1 (codes "default") 1 7 Md5)
    ∷ entry 1 (Fetch 0 Digest (codes "SHA2-256") []) (Fetched 2 (codes "default") 1 0 Sha256)
    ∷ entry 2 (NewCtx 1 None 0) (Made 3)
    ∷ entry 1 (NewCtx 2 None 0) (Made 4)
    ∷ entry 1 (FreeCtx 4) Done
    ∷ entry 1 (Free 2) Done
    ∷ entry 2 (FreeCtx 3) Done
    ∷ entry 2 (Free 1) Done
    ∷ []
    )
unfolding decode_pairs query_said list_at digits
by_a_list = (
  record { turn = record { caller = 2; line = 2 }; rest = 1 ∷ 2 ∷ 1 ∷ [] },
  refl,
  record { caller = refl; call = refl },
  (
    record { turn = record { caller = 1; line = 1 }; rest = 2 ∷ 1 ∷ [] },
    refl,
    record { caller = refl; call = refl },
    (
      record { turn = record { caller = 2; line = 2 }; rest = 1 ∷ [] },
      refl,
      record { caller = refl; call = refl },
      (
        record { turn = record { caller = 1; line = 1 }; rest = [] },
        refl,
        record { caller = refl; call = refl },
        (
          record { turn = record { caller = 1; line = 1 }; rest = [] },
          refl,
          record { caller = refl; call = refl },
          (
            record { turn = record { caller = 1; line = 1 }; rest = [] },
            refl,
            record { caller = refl; call = refl },
            (
              record { turn = record { caller = 2; line = 2 }; rest = [] },
              refl,
              record { caller = refl; call = refl },
              (record { turn = record { caller = 2; line = 2 }; rest = [] }, refl, record { caller = refl; call = refl }, refl),
            ),
          ),
        ),
      ),
    ),
  ),
)

-- an item whose caller has no line is passed over
pub passed_over : IsInTurn (batch_of (codes "1 closelib 0")) (2 ∷ 1 ∷ []) [] (entry 1 (CloseLib 0) Done ∷ [])
unfolding digits
passed_over = (record { turn = record { caller = 1; line = 1 }; rest = [] }, refl, record { caller = refl; call = refl }, refl)

-- 4. The program's own calls.

abbrev two_activations : SettingsView
two_activations = record { activations = codes "default" ∷ codes "legacy" ∷ []; default_query = Some [] }

pub opens : opening_calls two_activations ≡ Load 0 (codes "default") false ∷ Load 0 (codes "legacy") false ∷ SetDefault 0 [] ∷ []
opens = refl

pub opened : IsOpened two_activations (
    entry 0 (Load 0 (codes "default") false) (Loaded 1 1 0)
    ∷ entry 0 (Load 0 (codes "legacy") false) (Loaded 2 2 0)
    ∷ entry 0 (SetDefault 0 []) Done
    ∷ []
    )
opened = record { caller = refl; calls = refl; loaded = refl }

pub ended_early : IsEnded two_activations (entry 0 (Load 0 (codes "default") false) (Loaded 1 1 0) ∷ entry 0 (Load 0 (codes "legacy") false) NoProvider ∷ [])
ended_early = record { caller = refl; calls = refl; loaded = refl; ended = refl }

-- a batch whose one line makes no call, behind an opening
pub opened_and_closed : IsRunInOrder two_activations (batch_of (codes "1 unload A")) [] (
    entry 0 (Load 0 (codes "default") false) (Loaded 1 1 0)
    ∷ entry 0 (Load 0 (codes "legacy") false) (Loaded 2 2 0)
    ∷ entry 0 (SetDefault 0 []) Done
    ∷ entry 0 (Unload 2) Done
    ∷ entry 0 (Unload 1) Done
    ∷ entry 0 (CloseLib 0) Done
    ∷ []
    )
unfolding digits
opened_and_closed = record {
  opening = entry 0 (Load 0 (codes "default") false) (Loaded 1 1 0) ∷ entry 0 (Load 0 (codes "legacy") false) (Loaded 2 2 0) ∷ entry 0 (SetDefault 0 []) Done ∷ [];
  turns = [];
  returning = [];
  closing = entry 0 (Unload 2) Done ∷ entry 0 (Unload 1) Done ∷ entry 0 (CloseLib 0) Done ∷ [];
  parts = refl;
  opened = record { caller = refl; calls = refl; loaded = refl };
  in_turn = refl;
  returned = refl;
  closed = record { caller = refl; calls = refl };
}

-- the second load is refused: the first activation goes, each library context that the batch names closes, and no caller comes
pub refused_run : IsRefusedRun two_activations (batch_of (codes "1 closelib 1")) (codes "legacy") (
    entry 0 (Load 0 (codes "default") false) (Loaded 1 1 0)
    ∷ entry 0 (Load 0 (codes "legacy") false) NoProvider
    ∷ entry 0 (Unload 1) Done
    ∷ entry 0 (CloseLib 0) Done
    ∷ entry 0 (CloseLib 1) Done
    ∷ []
    )
unfolding digits
refused_run = record {
  opening = entry 0 (Load 0 (codes "default") false) (Loaded 1 1 0) ∷ entry 0 (Load 0 (codes "legacy") false) NoProvider ∷ [];
  closing = entry 0 (Unload 1) Done ∷ entry 0 (CloseLib 0) Done ∷ entry 0 (CloseLib 1) Done ∷ [];
  parts = refl;
  ended = record { caller = refl; calls = refl; loaded = refl; ended = refl };
  named = refl;
  closed = record { caller = refl; calls = refl };
}

-- the newest activation goes first, and the library contexts close from 0 up
pub closes : closing_calls 2 (1 ∷ 2 ∷ []) ≡ Unload 2 ∷ Unload 1 ∷ CloseLib 0 ∷ CloseLib 1 ∷ []
closes = refl
