use Rattle.std.proofs.Common.{◌≡◌, ◌<◌, ◌+◌, length, false, true, eqb, arith, rules, ap, [], ◌∷◌, length-append}
use Rattle.std.proofs.lemmas.List.{length-drop}
use Rattle.std.proofs.lemmas.Result.{err_from_is_err_and}
use Rattle.pcap_records.specs.Reading.{records_from, start_clock}
use Rattle.pcap_records.proofs.Loop.{goes_on, stops_at_most, stops, is_done, begins}
use Rattle.pcap_records.proofs.reading.read_records.Goals as goal

pub loop-rest-init : goal.loop-rest-init
loop-rest-init c = record {
  within = omega arith;
  few = omega (arith, ap length c.new-records.ensures);
  reads = begins c.args.form c.new-records.result c.new-clock.result 262144 24 c.args.bytes.now c.new-records.ensures c.new-clock.ensures;
}

pub returns-then-len-eq-MOST_RECORDS : goal.returns-then-len-eq-MOST_RECORDS
returns-then-len-eq-MOST_RECORDS c =
    let more : eqb (length c.loop-rest.rest.now) 0 ≡ false = first_of (cc, search rules) in
    let full : length c.loop-rest.records ≡ 262144 = omega arith in
    stops_at_most c.args.form c.loop-rest.records 262144 c.loop-rest.clock c.loop-rest.place c.loop-rest.rest.now (records_from c.args.form 262144 start_clock 24 c.args.bytes.now) more full c.loop-rest.invariant.reads

pub returns-in_err-record : goal.returns-in_err-record
returns-in_err-record c =
    let p = err_from_is_err_and c.from_residual.result c.from_residual.ensures.1 in
    let more : eqb (length c.loop-rest.rest.now) 0 ≡ false = first_of (cc, search rules) in
    let few = c.loop-rest.invariant.few in
    let small : length c.loop-rest.records < 262144 = first_of (omega arith, search rules) in
    rw (p.1, p.2) (stops c.args.form c.loop-rest.records 262144 c.loop-rest.clock c.loop-rest.place c.loop-rest.rest.now c.in_err-record.field-0.0 (records_from c.args.form 262144 start_clock 24 c.args.bytes.now) more small c.in_err-record.ensures.value c.loop-rest.invariant.reads)

pub loop-rest-preserved : goal.loop-rest-preserved
loop-rest-preserved c =
    let more : eqb (length c.loop-rest.rest.now) 0 ≡ false = first_of (cc, search rules) in
    let few = c.loop-rest.invariant.few in
    let small : length c.loop-rest.records < 262144 = first_of (omega arith, search rules) in
    let within = c.in_ok-record.ensures.within in
    let before = c.loop-rest.invariant.within in
    record {
      within = omega (arith, ap length c.rest_from-rest.ensures, length-drop (16 + c.in_ok-record.record.len) c.loop-rest.rest.now);
      few = omega (arith, ap length c.in_ok-push.ensures.ok, length-append c.loop-rest.records (c.in_ok-record.record ∷ []));
      reads = goes_on c.args.form c.loop-rest.records c.push.new.self 262144 c.loop-rest.clock c.loop-rest.place c.loop-rest.rest.now c.rest_from-rest.result.now (c.in_ok-record.record, c.in_ok-record.next) (c.loop-rest.place + (16 + c.in_ok-record.record.len)) (records_from c.args.form 262144 start_clock 24 c.args.bytes.now)
          more small c.in_ok-record.ensures.value (omega arith) c.rest_from-rest.ensures c.in_ok-push.ensures.ok c.loop-rest.invariant.reads;
    }

pub returns : goal.returns
returns c =
    let nothing : eqb (length c.loop-rest.rest.now) 0 ≡ true = first_of (cc, search rules) in
    is_done c.args.form c.loop-rest.records _ c.loop-rest.clock c.loop-rest.place c.loop-rest.rest.now (records_from c.args.form 262144 start_clock 24 c.args.bytes.now) nothing c.loop-rest.invariant.reads
