use Rattle.std.proofs.Common.{◌/◌, length, false, sym, ◌∙◌}
use Rattle.ossl_modes.specs.declared.kinds.ModeKind.TheVariants.{Cbc, Cfb}
use Rattle.ossl_modes.specs.Modes.{blocks, value_after}
use Rattle.ossl_modes.proofs.Turns.{blocks_stepped, value_stepped}
use Rattle.ossl_modes.proofs.state.BlockMode.through_all.Goals as goal

pub returns-in-Cbc-false-clause-gives : goal.returns-in-Cbc-false-clause-gives
returns-in-Cbc-false-clause-gives g c =
    let m = c.args.self.now in
    let room = c.args.room.now in
    let e = g.C.Block.enc m.cipher in
    let d = g.C.Block.dec m.cipher in
    let is = c.in-Cbc-false in
    c.each_through-in-Cbc-false.ensures.gives ∙ blocks_stepped e d Cbc false (length room / 16) m.value room
    ∙ (λ i. blocks e d (sym is.is-0 i) (sym is.is-1 i) (length room / 16) m.value room)

pub returns-in-Cbc-false-clause-next : goal.returns-in-Cbc-false-clause-next
returns-in-Cbc-false-clause-next g c =
    let m = c.args.self.now in
    let room = c.args.room.now in
    let e = g.C.Block.enc m.cipher in
    let d = g.C.Block.dec m.cipher in
    let is = c.in-Cbc-false in
    let next = c.each_through-in-Cbc-false.ensures.next ∙ value_stepped e d Cbc false (length room / 16) m.value room
    ∙ (λ i. value_after e d (sym is.is-0 i) (sym is.is-1 i) (length room / 16) m.value room) in
    λ i. record { cipher = m.cipher; kind = m.kind; decrypt = m.decrypt; value = next i }

pub returns-in-Cfb-false-clause-gives : goal.returns-in-Cfb-false-clause-gives
returns-in-Cfb-false-clause-gives g c =
    let m = c.args.self.now in
    let room = c.args.room.now in
    let e = g.C.Block.enc m.cipher in
    let d = g.C.Block.dec m.cipher in
    let is = c.in-Cfb-false in
    c.each_through-in-Cfb-false.ensures.gives ∙ blocks_stepped e d Cfb false (length room / 16) m.value room
    ∙ (λ i. blocks e d (sym is.is-0 i) (sym is.is-1 i) (length room / 16) m.value room)

pub returns-in-Cfb-false-clause-next : goal.returns-in-Cfb-false-clause-next
returns-in-Cfb-false-clause-next g c =
    let m = c.args.self.now in
    let room = c.args.room.now in
    let e = g.C.Block.enc m.cipher in
    let d = g.C.Block.dec m.cipher in
    let is = c.in-Cfb-false in
    let next = c.each_through-in-Cfb-false.ensures.next ∙ value_stepped e d Cfb false (length room / 16) m.value room
    ∙ (λ i. value_after e d (sym is.is-0 i) (sym is.is-1 i) (length room / 16) m.value room) in
    λ i. record { cipher = m.cipher; kind = m.kind; decrypt = m.decrypt; value = next i }
