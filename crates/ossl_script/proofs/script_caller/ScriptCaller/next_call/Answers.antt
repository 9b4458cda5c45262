use Rattle.std.proofs.Common.{◌≡◌, ◌<◌, false, refl, sym, ap, ◌∙◌, subst}
use Rattle.std.specs.Prelude.{IfSome, option_map, vec_capacity, vec_len}
use Rattle.ossl_script.specs.declared.caller.Next.{Next}
use Rattle.ossl_script.specs.declared.script_caller.ScriptCaller.TheInside.{Inside}
use Rattle.ossl_script.specs.Caller.{Standing, call_in}
use Rattle.ossl_script.specs.Given.{content_by}
use Rattle.ossl_script.specs.Held.{without_texts}
use Rattle.ossl_script.specs.Progress.{Arrives, Stands}
use Rattle.ossl_script.specs.View.{GoesOn, ScriptCallerView, next_of, told}
use Rattle.ossl_script.specs.Work.{view_of}
use Rattle.ossl_script.proofs.AllowedLaws.{calls_are_allowed}
use Rattle.ossl_script.proofs.WorkLaws.{arrives_here, if_ok_at, if_ok_from, next_told, on_ok_at, view_told, works_told}
use Rattle.ossl_script.proofs.script_caller.ScriptCaller.next_call.Goals as goal

pub returns-then-self-clause-allowed : goal.returns-then-self-clause-allowed
returns-then-self-clause-allowed c = calls_are_allowed

pub returns-in-Err-clause-allowed : goal.returns-in-Err-clause-allowed
returns-in-Err-clause-allowed c = calls_are_allowed

pub returns-in-Ok-clause-allowed : goal.returns-in-Ok-clause-allowed
returns-in-Ok-clause-allowed c = calls_are_allowed

pub invariant_of-self : goal.invariant_of-self
invariant_of-self c =
    let s : Inside = c.self.inside in
    let result = c.go_on_with_room-next.result in
    let new = c.go_on_with_room-next.new in
    let ensures = c.go_on_with_room-next.ensures in
    let next : Next = c.in-Ok.next in
    let goes_on = subst (λ (v : ScriptCallerView). GoesOn v false) (sym c.self.view_is) c.requires in
    let contents = c.as_slice-contents.result.now in
    let lines = s.lines in
    let arrives = arrives_here s new.progress contents lines next c.self.invariant goes_on c.if-self.false c.as_slice-contents.ensures.value refl
    (if_ok_at (λ (n : Next). (standing : Standing) → Stands (content_by contents) lines s.replies.items s.progress standing → Arrives (content_by contents) lines new.progress standing n)
    result next c.in-Ok.is ensures.arrives) in
    works_told s new.progress new.replies new.places new.asked c.self.invariant ensures.replies ensures.places c.is_end-self-inside.result next
    (if_ok_at (λ (n : Next). new.asked ≡ option_map without_texts (call_in n)) result next c.in-Ok.is ensures.asked) c.is_end-self-inside.ensures.end
    (on_ok_at (IfSome new.asked (λ call. vec_len new.places < vec_capacity new.places)) result next c.in-Ok.is ensures.room_for_token)
    (on_ok_at (IfSome new.asked (λ call. vec_len new.replies < vec_capacity new.replies)) result next c.in-Ok.is ensures.room_for_reply)
    arrives

pub returns-in-Ok-clause-call : goal.returns-in-Ok-clause-call
returns-in-Ok-clause-call c =
    let s : Inside = c.self.inside in
    let result = c.go_on_with_room-next.result in
    let new = c.go_on_with_room-next.new in
    let next : Next = c.in-Ok.next in
    let goes_on = subst (λ (v : ScriptCallerView). GoesOn v false) (sym c.self.view_is) c.requires in
    let contents = c.as_slice-contents.result.now in
    let lines = s.lines in
    let arrives = arrives_here s new.progress contents lines next c.self.invariant goes_on c.if-self.false c.as_slice-contents.ensures.value refl
    (if_ok_at (λ (n : Next). (standing : Standing) → Stands (content_by contents) lines s.replies.items s.progress standing → Arrives (content_by contents) lines new.progress standing n)
    result next c.in-Ok.is c.go_on_with_room-next.ensures.arrives) in
    if_ok_from (λ (n : Next). n ≡ next_of c.args.self.now) result next c.in-Ok.is
    (next_told s new.progress next arrives ∙ ap (λ (v : ScriptCallerView). next_of v) c.self.view_is)

pub returns-in-Ok-clause-told : goal.returns-in-Ok-clause-told
returns-in-Ok-clause-told c =
    let s : Inside = c.self.inside in
    let result = c.go_on_with_room-next.result in
    let new = c.go_on_with_room-next.new in
    let ensures = c.go_on_with_room-next.ensures in
    let next : Next = c.in-Ok.next in
    let after : Inside = record s { progress = new.progress; replies = new.replies; places = new.places; asked = new.asked; ended = c.is_end-self-inside.result } in
    if_ok_from (λ (n : Next). view_of after ≡ told n c.args.self.now) result next c.in-Ok.is
    (view_told s new.progress new.replies new.places new.asked c.self.invariant ensures.replies ensures.places c.is_end-self-inside.result next
    (if_ok_at (λ (n : Next). new.asked ≡ option_map without_texts (call_in n)) result next c.in-Ok.is ensures.asked) c.is_end-self-inside.ensures.end
    ∙ ap (λ (v : ScriptCallerView). told next v) c.self.view_is)
