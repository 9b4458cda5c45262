use Rattle.std.proofs.Common.{false, None, refl}
use Rattle.ossl_script.specs.declared.script_caller.ScriptCaller.TheInside.{Inside}
use Rattle.ossl_script.specs.Work.{view_of}
use Rattle.ossl_script.proofs.OwnLaws.{own_lines_alone}
use Rattle.ossl_script.proofs.WorkLaws.{speaks, view_fresh, works_first}
use Rattle.ossl_script.proofs.script_caller.ScriptCaller.new.Goals as goal

pub returns-in_err-lines-clause-alone : goal.returns-in_err-lines-clause-alone
returns-in_err-lines-clause-alone c = own_lines_alone

pub returns-in_err-contents-clause-alone : goal.returns-in_err-contents-clause-alone
returns-in_err-contents-clause-alone c = own_lines_alone

pub invariant_of-result : goal.invariant_of-result
invariant_of-result c =
    let s : Inside = record {
      alloc = c.args.alloc;
      caller = c.args.caller;
      lines = c.in_ok-lines.lines;
      contents = c.in_ok-contents.contents;
      replies = c.new.result;
      places = c.new-2.result;
      progress = record { told = c.new-3.result; names = c.new-4.result; stage = None; line = 0 };
      asked = None;
      ended = false;
      refused = false;
    } in
    works_first s c.args.script.now.commands
    c.in_ok-lines.ensures.lines
    c.new.ensures.items c.new-2.ensures.items c.new-3.ensures.items c.new-4.ensures.empty refl refl refl refl

pub returns-clause-fresh : goal.returns-clause-fresh
returns-clause-fresh c =
    let s : Inside = record {
      alloc = c.args.alloc;
      caller = c.args.caller;
      lines = c.in_ok-lines.lines;
      contents = c.in_ok-contents.contents;
      replies = c.new.result;
      places = c.new-2.result;
      progress = record { told = c.new-3.result; names = c.new-4.result; stage = None; line = 0 };
      asked = None;
      ended = false;
      refused = false;
    } in
    view_fresh s c.args.script.now.commands
    c.in_ok-lines.ensures.lines
    c.new.ensures.items c.new-2.ensures.items refl refl refl

pub returns-clause-batch : goal.returns-clause-batch
returns-clause-batch c =
    let s : Inside = record {
      alloc = c.args.alloc;
      caller = c.args.caller;
      lines = c.in_ok-lines.lines;
      contents = c.in_ok-contents.contents;
      replies = c.new.result;
      places = c.new-2.result;
      progress = record { told = c.new-3.result; names = c.new-4.result; stage = None; line = 0 };
      asked = None;
      ended = false;
      refused = false;
    } in
    speaks c.args.script.now.commands c.args.contents.now (view_of s)
    c.in_ok-lines.ensures.lines c.in_ok-contents.ensures

pub returns-clause-alone : goal.returns-clause-alone
returns-clause-alone c = own_lines_alone
