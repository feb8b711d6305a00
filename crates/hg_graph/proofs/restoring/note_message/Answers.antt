use Rattle.std.proofs.Common.{◌≡◌, ℕ, List, [], arith, get_or, sym, subst}
use Rattle.std.proofs.lemmas.List.{get_or_read}
use Rattle.hg_model.specs.declared.segment.Mark.TheVariants.{Plain, Sent, Got}
use Rattle.hg_model.specs.declared.segment.Segment.{Segment}
use Rattle.hg_graph.specs.Clocks.{IsClock}
use Rattle.hg_graph.proofs.Keeping.{mark_read, upto_got, upto_plain, upto_sent}
use Rattle.hg_graph.proofs.Lawful.{sent_anew}
use Rattle.hg_graph.proofs.restoring.note_message.Goals as goal

pub returns-in-Plain : goal.returns-in-Plain
returns-in-Plain c =
    let segments : List Segment = c.args.segments.now in
    upto_plain segments c.args.number c.requires.within c.args.pending.now (mark_read segments c.args.number _ Plain c.requires.within c.in-Plain.is) c.requires.pending

pub add-requires : goal.add-requires
add-requires c =
    let segments : List Segment = c.args.segments.now in
    record { fresh = c.requires.pending.not_sent c.in-Sent.message (sent_anew segments c.requires.lawful c.args.number c.in-Sent.message c.requires.within (mark_read segments c.args.number _ (Sent c.in-Sent.message) c.requires.within c.in-Sent.is)) }

pub returns-in_ok-add-in-Sent : goal.returns-in_ok-add-in-Sent
returns-in_ok-add-in-Sent c =
    let segments : List Segment = c.args.segments.now in
    let clocks : List (List ℕ) = c.args.clocks.now in
    let a = c.ends-ended.result.0 in
    let first = c.ends-ended.ensures.first in
    let rows = c.requires.clocks.rows in
    let row : List ℕ = c.index-clocks-ended.result in
    let read : row ≡ get_or clocks a [] = get_or_read clocks a row (omega arith) c.index-clocks-ended.is [] in
    upto_sent segments c.args.number c.requires.within c.in-Sent.message (record { segment = a; clock = row }) c.args.pending.now c.add.new.self c.requires.lawful
    (mark_read segments c.args.number _ (Sent c.in-Sent.message) c.requires.within c.in-Sent.is) c.ends-ended.ensures.begin (subst (IsClock segments a) (sym read) (c.requires.clocks.each a c.ends-ended.ensures.ends.first)) c.requires.pending
    c.in_ok-add-in-Sent.ensures.kept

pub returns-in-Got : goal.returns-in-Got
returns-in-Got c =
    let segments : List Segment = c.args.segments.now in
    upto_got segments c.args.number c.requires.within c.in-Got.message c.args.pending.now c.take_out.new.self c.requires.lawful (mark_read segments c.args.number _ (Got c.in-Got.message) c.requires.within c.in-Got.is) c.requires.pending c.take_out.ensures
