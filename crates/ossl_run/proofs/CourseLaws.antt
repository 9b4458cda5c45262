-- The course of a run: its callers between the opening and the closing.
use Rattle.std.proofs.Common.{◌≡◌, ℕ, ◌≤◌, List, [], ◌++◌, length, map, refl, sym, ◌∙◌, ap, subst, arith, inl}
use Rattle.std.specs.Prelude.{Err, Ok, OnErr, OnOk, Result}
use Rattle.std.proofs.lemmas.List.{append-nil, length-map}
use Rattle.ossl_base.specs.declared.entry.Entry.{Entry}
use Rattle.ossl_commands.specs.Counts.{callers_of, contexts_of, lines_of}
use Rattle.ossl_commands.specs.Judging.{commands_of}
use Rattle.ossl_commands.specs.View.{ScriptView}
use Rattle.ossl_prepare.specs.View.{PreparedView}
use Rattle.ossl_script.specs.declared.caller.LineResult.{LineResult}
use Rattle.ossl_script.specs.View.{printed_of}
use Rattle.ossl_state.specs.declared.call.Call.{Call}
use Rattle.ossl_state.specs.declared.call.Reply.{Reply}
use Rattle.ossl_state.specs.Tokens.{entries_of}
use Rattle.ossl_ordered.specs.declared.player.Player.{Player}
use Rattle.ossl_ordered.specs.Turns.{IsInTurn}
use Rattle.ossl_ordered.specs.Work.{AreAtWork, AreFresh, AreKept, ReturnsAll, Runs, RunsInTurn, Working}
use Rattle.ossl_ordered.proofs.RunLaws.{none_middle, nothing_owned, whole_middle}
use Rattle.ossl_print.specs.Batched.{Batch}
use Rattle.ossl_run.specs.Ending.{batch_of}
use Rattle.ossl_run.specs.Middle.{DidAll, GaveBack, IsRunnable}
use Rattle.ossl_run.proofs.CallerLaws.{each_left, each_told, told_after}
use Rattle.ossl_run.proofs.TextLaws.{callers_counted, no_program_line, numbers_distinct}

-- fresh callers are at work, and have taken no turn
pub begun : (batch : Batch) (contexts : ℕ) (opening : List (Entry Call Reply)) (players : List Player) → entries_of 0 opening ≡ opening → contexts_of batch.lines ≤ contexts
    → lines_of 0 batch.lines ≡ [] → length players ≡ callers_of batch.lines → AreFresh batch.lines batch.contents players → AreAtWork batch contexts opening [] opening players
begun batch contexts opening players apart few none each fresh = record {
  parts = sym (append-nil opening);
  apart = apart;
  few = few;
  none = none;
  others = λ c outside. refl;
  each = each;
  work = λ k other below. let f = fresh k other below in record {
    number = f.number;
    same = f.same;
    speaks = f.speaks;
    follows = tt;
    replies = f.fresh;
    keeps = f.keeps;
  };
}

module _ (batch : Batch) (contexts : ℕ) (opening turns before after : List (Entry Call Reply)) (ran : List Player) (at : AreAtWork batch contexts opening turns before ran)
    (returned : ReturnsAll batch turns before after) where
  pub gave_back : GaveBack opening after
  gave_back = record {
    middle = turns ++ returned.0;
    parts = whole_middle batch contexts opening turns before after ran at returned;
    program = none_middle batch contexts opening turns before after ran at returned 0 (inl refl);
    holds_none = λ c t some. nothing_owned batch contexts opening turns before after ran at returned c t some;
  }

  -- callers whose lines are done, and what is printed of them
  pub did_all : (text : List ℕ) (files : List (List ℕ)) (list : List ℕ) (left : List Player) (results : List (List LineResult)) → commands_of text ≡ Ok (record { lines = batch.lines; files = files })
      → AreKept ran left → IsInTurn batch list [] turns → results ≡ map (λ (p : Player). printed_of p.work) left → DidAll batch list opening after results
  did_all text files list left results said kept in_turn are = subst (λ rs. DidAll batch list opening after rs) (sym are) (record {
    turns = turns;
    returning = returned.0;
    parts = returned.1 ∙ ap (λ l. l ++ returned.0) at.parts;
    in_turn = in_turn;
    returned = returned.2;
    each = long;
    are_results = λ c some few. told_after batch contexts list opening turns returned.0 before ran left at kept in_turn c some (omega (arith, few, count));
    told = record {
      callers = callers_counted text (record { lines = batch.lines; files = files }) said (length (map printed left)) (sym long);
      numbers = numbers_distinct text (record { lines = batch.lines; files = files }) said;
      each = λ c some few. each_told batch contexts list opening turns returned.0 before ran left at kept in_turn c some (omega (arith, few, count));
    };
  })
    where
      printed : Player → List LineResult
      printed p = printed_of p.work

      count : length (map printed left) ≡ length left
      count = length-map left printed

      long : length (map printed left) ≡ callers_of batch.lines
      long = count ∙ each_left batch contexts list opening turns returned.0 before ran left at kept in_turn

-- whether their lines are done or memory is refused, the callers took turns
pub ran_so : {T E : Type 0} (r : Result T E) (list : List ℕ) (contexts : ℕ) (before after : List (Entry Call Reply))
    (old new : List Player) → OnOk r (RunsInTurn list contexts before after old new)
    → OnErr r (Runs contexts before after old new) → Runs contexts before after old new
ran_so (Ok x) list contexts before after old new all some batch opening turns at =
    let done = all batch opening turns at in (done.0, done.1, tt)
ran_so (Err e) list contexts before after old new all some batch opening turns at = some batch opening turns at

-- no caller comes or goes
pub as_many : (batch : Batch) (contexts : ℕ) (opening before : List (Entry Call Reply)) (fresh ran : List Player)
    → AreAtWork batch contexts opening [] opening fresh → Runs contexts opening before fresh ran
    → length ran ≡ length fresh
as_many batch contexts opening before fresh ran at runs =
    let done = runs batch opening [] at in done.1.each ∙ sym at.each

-- the callers of a batch that was made ready, at the start of their work behind an opening
pub at_start : (prepared : PreparedView) (contexts : ℕ) (opening : List (Entry Call Reply)) (script : ScriptView)
    (contents : List (List ℕ)) (players fresh : List Player) → fresh ≡ players → IsRunnable prepared.script
    → contexts_of prepared.script.commands ≤ contexts → entries_of 0 opening ≡ opening → script ≡ prepared.script
    → contents ≡ prepared.contents → length players ≡ callers_of script.commands
    → AreFresh script.commands contents players → AreAtWork (batch_of prepared) contexts opening [] opening fresh
at_start prepared contexts opening script contents players fresh lent runnable few apart same held each are =
    let lines = prepared.script.commands in
    let none = no_program_line runnable.text (record { lines = lines; files = prepared.script.files }) runnable.said in
    let there = subst (λ (s : ScriptView). AreFresh s.commands contents players) same are in
    subst (λ ps. AreAtWork (batch_of prepared) contexts opening [] opening ps) (sym lent)
    (begun (batch_of prepared) contexts opening players apart few none
    (each ∙ ap (λ (s : ScriptView). callers_of s.commands) same)
    (subst (λ bytes. AreFresh lines bytes players) held there))

-- callers that begin behind an opening and take turns, and then stand in this slice, in a registry of as many library
-- contexts
module _ (batch : Batch) (contexts now : ℕ) (opening before : List (Entry Call Reply)) (fresh ran slice : List Player)
    (at : AreAtWork batch contexts opening [] opening fresh) (same : now ≡ contexts) (lent : slice ≡ ran) where
  there : (turns : List (Entry Call Reply)) → AreAtWork batch contexts opening turns before ran
      → AreAtWork batch now opening turns before slice
  there turns done =
      subst (λ n. AreAtWork batch n opening turns before slice) (sym same)
      (subst (λ ps. AreAtWork batch contexts opening turns before ps) (sym lent) done)

  pub still_working : Runs contexts opening before fresh ran → Working now before slice
  still_working runs =
      let done = runs batch opening [] at in (batch, opening, done.0, there done.0 done.1)

  -- and give back
  module _ (after : List (Entry Call Reply))
      (returns : (batch : Batch) (opening turns : List (Entry Call Reply))
      → AreAtWork batch now opening turns before slice → ReturnsAll batch turns before after) where
    pub back_after : Runs contexts opening before fresh ran → GaveBack opening after
    back_after runs =
        let done = runs batch opening [] at in
        let work = there done.0 done.1 in
        gave_back batch now opening done.0 before after slice work (returns batch opening done.0 work)

    pub did_after : (text : List ℕ) (files : List (List ℕ)) (list order : List ℕ) (left : List Player)
        (results : List (List LineResult)) → commands_of text ≡ Ok (record { lines = batch.lines; files = files })
        → list ≡ order → AreKept slice left → RunsInTurn list contexts opening before fresh ran
        → results ≡ map (λ (p : Player). printed_of p.work) left → DidAll batch order opening after results
    did_after text files list order left results said listed kept runs are =
        let done = runs batch opening [] at in
        let work = there done.0 done.1 in
        let returned = returns batch opening done.0 work in
        subst (λ l. DidAll batch l opening after results) listed
        (did_all batch now opening done.0 before after slice work returned
        text files list left results said kept done.2 are)
