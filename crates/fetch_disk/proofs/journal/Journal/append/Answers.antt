use Rattle.std.proofs.Common.{◌≡◌, inl, ◌+◌, ◌^◌, ◌<◌, [], ◌∷◌, ◌++◌, length, refl, ◌∙◌, ap, arith, length-append}
use Rattle.fetch_base.specs.Id.{byte_len}
use Rattle.fetch_disk.specs.Directory.{InJournal}
use Rattle.fetch_disk.specs.Disk.{After, JournalIs}
use Rattle.fetch_disk.specs.Journal.{IsSettled}
use Rattle.fetch_disk.specs.Records.{payload, MayAdd}
use Rattle.fetch_disk.specs.declared.record.Record.{Record}
use Rattle.fetch_disk.proofs.Found.{length-payload, byte_len-most}
use Rattle.fetch_disk.proofs.Moments.{joined}
use Rattle.fetch_disk.proofs.Appending.{on_false, stands_still, first_span, second_span, middle_is, last_is, added_is}
use Rattle.fetch_disk.proofs.Crash.{staged, adds}
use Rattle.fetch_disk.proofs.journal.Journal.append.Goals as goal

pub returns-then-self-clause-any_moment : goal.returns-then-self-clause-any_moment
returns-then-self-clause-any_moment g c =
    let v = g.D.Volume in
    let e : Record = record { kind = c.args.kind; body = c.args.body.now } in
    stands_still v.moment v.left_since v.may_leave v.only_now c.args.self.now.disk (MayAdd c.args.self.now.hash e) (λ bytes. inl refl)

pub returns-then-self-ge-LIMIT-clause-any_moment : goal.returns-then-self-ge-LIMIT-clause-any_moment
returns-then-self-ge-LIMIT-clause-any_moment g c =
    let v = g.D.Volume in
    let e : Record = record { kind = c.args.kind; body = c.args.body.now } in
    stands_still v.moment v.left_since v.may_leave v.only_now c.args.self.now.disk (MayAdd c.args.self.now.hash e) (λ bytes. inl refl)

pub returns-in_err-bytes-clause-any_moment : goal.returns-in_err-bytes-clause-any_moment
returns-in_err-bytes-clause-any_moment g c =
    let v = g.D.Volume in
    let e : Record = record { kind = c.args.kind; body = c.args.body.now } in
    stands_still v.moment v.left_since v.may_leave v.only_now c.args.self.now.disk (MayAdd c.args.self.now.hash e) (λ bytes. inl refl)

-- the first write leaves the records before
pub returns-in_err-write_durable-clause-any_moment : goal.returns-in_err-write_durable-clause-any_moment
returns-in_err-write_durable-clause-any_moment g c =
    let v = g.D.Volume in
    let e : Record = record { kind = c.args.kind; body = c.args.body.now } in
    let s = on_false c.args.self.now.failed (IsSettled v.seen v.may_leave c.args.self.now) c.requires c.if-self.false in
    let small : c.args.self.now.end < 2 ^ 60 = omega arith in
    first_span v.moment v.left_since v.may_leave c.args.self.now.hash e (v.seen c.args.self.now.disk).journal s.records c.args.self.now.end s.at_rest small c.args.self.now.disk s.durable
    c.write_durable.new.disk _ c.write_durable.ensures.any_moment

-- the second those, or those and the new one
pub returns-in_err-write_durable-2-clause-any_moment : goal.returns-in_err-write_durable-2-clause-any_moment
returns-in_err-write_durable-2-clause-any_moment g c =
    let v = g.D.Volume in
    let hash = c.args.self.now.hash in
    let end = c.args.self.now.end in
    let e : Record = record { kind = c.args.kind; body = c.args.body.now } in
    let s = on_false c.args.self.now.failed (IsSettled v.seen v.may_leave c.args.self.now) c.requires c.if-self.false in
    let file = (v.seen c.args.self.now.disk).journal in
    let small : end < 2 ^ 60 = omega arith in
    let text : c.deref.result.now ≡ payload hash e ++ 0 ∷ [] = c.deref.ensures.value ∙ c.in_ok-bytes.ensures in
    let fits : end + 10 + length e.body + byte_len hash < 2 ^ 64 = omega (arith, byte_len-most hash) in
    let middle = middle_is v.moment v.left_since v.may_leave hash e file s.records end s.at_rest small c.args.self.now.disk s.durable (v.seen c.args.self.now.disk) (v.seen c.write_durable.new.disk) c.deref.result.now refl text c.in_ok-write_durable.ensures.written in
    let is : JournalIs (staged hash s.records s.at_rest.stands.gate e) (v.may_leave c.write_durable.new.disk) = λ l left. c.in_ok-write_durable.ensures.durable l left ∙ middle in
    let P = After (InJournal (MayAdd hash e)) (v.may_leave c.args.self.now.disk) in
    joined v.moment v.left_since c.args.self.now.disk c.write_durable.new.disk c.write_durable-2.new.disk P
    (first_span v.moment v.left_since v.may_leave hash e file s.records end s.at_rest small c.args.self.now.disk s.durable c.write_durable.new.disk _ c.write_durable.ensures.any_moment)
    (second_span v.moment v.left_since v.may_leave hash e file s.records end s.at_rest small c.args.self.now.disk s.durable c.write_durable.new.disk c.write_durable-2.new.disk _ fits is c.write_durable.ensures.crash c.write_durable-2.ensures.any_moment)

pub returns-clause-any_moment : goal.returns-clause-any_moment
returns-clause-any_moment g c =
    let v = g.D.Volume in
    let hash = c.args.self.now.hash in
    let end = c.args.self.now.end in
    let e : Record = record { kind = c.args.kind; body = c.args.body.now } in
    let s = on_false c.args.self.now.failed (IsSettled v.seen v.may_leave c.args.self.now) c.requires c.if-self.false in
    let file = (v.seen c.args.self.now.disk).journal in
    let small : end < 2 ^ 60 = omega arith in
    let text : c.deref.result.now ≡ payload hash e ++ 0 ∷ [] = c.deref.ensures.value ∙ c.in_ok-bytes.ensures in
    let fits : end + 10 + length e.body + byte_len hash < 2 ^ 64 = omega (arith, byte_len-most hash) in
    let middle = middle_is v.moment v.left_since v.may_leave hash e file s.records end s.at_rest small c.args.self.now.disk s.durable (v.seen c.args.self.now.disk) (v.seen c.write_durable.new.disk) c.deref.result.now refl text c.in_ok-write_durable.ensures.written in
    let is : JournalIs (staged hash s.records s.at_rest.stands.gate e) (v.may_leave c.write_durable.new.disk) = λ l left. c.in_ok-write_durable.ensures.durable l left ∙ middle in
    let P = After (InJournal (MayAdd hash e)) (v.may_leave c.args.self.now.disk) in
    joined v.moment v.left_since c.args.self.now.disk c.write_durable.new.disk c.write_durable-2.new.disk P
    (first_span v.moment v.left_since v.may_leave hash e file s.records end s.at_rest small c.args.self.now.disk s.durable c.write_durable.new.disk _ c.write_durable.ensures.any_moment)
    (second_span v.moment v.left_since v.may_leave hash e file s.records end s.at_rest small c.args.self.now.disk s.durable c.write_durable.new.disk c.write_durable-2.new.disk _ fits is c.write_durable.ensures.crash c.write_durable-2.ensures.any_moment)

pub returns-clause-acknowledged : goal.returns-clause-acknowledged
returns-clause-acknowledged g c =
    let v = g.D.Volume in
    let hash = c.args.self.now.hash in
    let end = c.args.self.now.end in
    let e : Record = record { kind = c.args.kind; body = c.args.body.now } in
    let s = on_false c.args.self.now.failed (IsSettled v.seen v.may_leave c.args.self.now) c.requires c.if-self.false in
    let file = (v.seen c.args.self.now.disk).journal in
    let small : end < 2 ^ 60 = omega arith in
    let text : c.deref.result.now ≡ payload hash e ++ 0 ∷ [] = c.deref.ensures.value ∙ c.in_ok-bytes.ensures in
    let fits : end + 10 + length e.body + byte_len hash < 2 ^ 64 = omega (arith, byte_len-most hash) in
    let middle = middle_is v.moment v.left_since v.may_leave hash e file s.records end s.at_rest small c.args.self.now.disk s.durable (v.seen c.args.self.now.disk) (v.seen c.write_durable.new.disk) c.deref.result.now refl text c.in_ok-write_durable.ensures.written in
    let last = last_is v.moment v.left_since v.may_leave hash e file s.records end s.at_rest small c.args.self.now.disk s.durable (v.seen c.write_durable.new.disk) (v.seen c.write_durable-2.new.disk) middle c.in_ok-write_durable-2.ensures.written in
    let size : length c.in_ok-bytes.bytes.items ≡ 10 + length e.body + byte_len hash = omega (arith, ap length c.in_ok-bytes.ensures, length-append (payload hash e) (0 ∷ []), length-payload hash e) in
    let rest = added_is v.moment v.left_since v.may_leave hash e file s.records end s.at_rest small c.args.self.now.disk s.durable (v.seen c.write_durable-2.new.disk).journal (end + c.len.result) fits last (omega (arith, size, c.len.ensures)) in (
      record { records = s.records ++ e ∷ []; at_rest = rest; durable = c.in_ok-write_durable-2.ensures.durable },
      adds hash s.records e file (v.seen c.write_durable-2.new.disk).journal s.at_rest.stands rest.stands,
    )

pub returns-clause-sound : goal.returns-clause-sound
returns-clause-sound g c =
    let v = g.D.Volume in
    let hash = c.args.self.now.hash in
    let end = c.args.self.now.end in
    let e : Record = record { kind = c.args.kind; body = c.args.body.now } in
    let s = on_false c.args.self.now.failed (IsSettled v.seen v.may_leave c.args.self.now) c.requires c.if-self.false in
    let file = (v.seen c.args.self.now.disk).journal in
    let small : end < 2 ^ 60 = omega arith in
    let text : c.deref.result.now ≡ payload hash e ++ 0 ∷ [] = c.deref.ensures.value ∙ c.in_ok-bytes.ensures in
    let fits : end + 10 + length e.body + byte_len hash < 2 ^ 64 = omega (arith, byte_len-most hash) in
    let middle = middle_is v.moment v.left_since v.may_leave hash e file s.records end s.at_rest small c.args.self.now.disk s.durable (v.seen c.args.self.now.disk) (v.seen c.write_durable.new.disk) c.deref.result.now refl text c.in_ok-write_durable.ensures.written in
    let last = last_is v.moment v.left_since v.may_leave hash e file s.records end s.at_rest small c.args.self.now.disk s.durable (v.seen c.write_durable.new.disk) (v.seen c.write_durable-2.new.disk) middle c.in_ok-write_durable-2.ensures.written in
    let size : length c.in_ok-bytes.bytes.items ≡ 10 + length e.body + byte_len hash = omega (arith, ap length c.in_ok-bytes.ensures, length-append (payload hash e) (0 ∷ []), length-payload hash e) in
    let rest = added_is v.moment v.left_since v.may_leave hash e file s.records end s.at_rest small c.args.self.now.disk s.durable (v.seen c.write_durable-2.new.disk).journal (end + c.len.result) fits last (omega (arith, size, c.len.ensures)) in
    record { records = s.records ++ e ∷ []; at_rest = rest; durable = c.in_ok-write_durable-2.ensures.durable }
