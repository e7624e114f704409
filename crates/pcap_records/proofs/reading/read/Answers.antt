use Rattle.std.proofs.Common.{arith, subst}
use Rattle.pcap_records.specs.Capture.{Answers}
use Rattle.pcap_records.proofs.Bounds.{read_is_bounded}
use Rattle.pcap_records.proofs.Whole.{is_found, is_refused, capture_again, refusal_again}
use Rattle.pcap_records.proofs.reading.read.Goals as goal

pub returns-clause-found : goal.returns-clause-found
returns-clause-found c = is_found c.args.bytes.now c.read_whole.result c.read_whole.ensures

pub returns-clause-refused : goal.returns-clause-refused
returns-clause-refused c = is_refused c.args.bytes.now c.read_whole.result c.read_whole.ensures

pub returns-clause-only : goal.returns-clause-only
returns-clause-only c = λ records h. subst (Answers c.read_whole.result) (capture_again c.args.bytes.now records (λ i. omega (arith, c.type_inv.bytes i)) h) c.read_whole.ensures

pub returns-clause-always : goal.returns-clause-always
returns-clause-always c = λ fail h. subst (Answers c.read_whole.result) (refusal_again c.args.bytes.now fail (λ i. omega (arith, c.type_inv.bytes i)) h) c.read_whole.ensures

pub returns-clause-bounded : goal.returns-clause-bounded
returns-clause-bounded c = read_is_bounded c.args.bytes.now c.read_whole.result (is_found c.args.bytes.now c.read_whole.result c.read_whole.ensures)
