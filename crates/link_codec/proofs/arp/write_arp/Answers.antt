use Rattle.std.proofs.Common.{◌≡◌, ◌++◌, length, take, rules, refl, arith}
use Rattle.std.specs.Int.{w16, w32, to_be_bytes}
use Rattle.std.proofs.lemmas.Grind.{common_steps}
use Rattle.link_codec.specs.Arp.{arp_kind}
use Rattle.link_codec.proofs.Packets.{packet_of}
use Rattle.link_codec.proofs.arp.write_arp.Goals as goal

pub returns : goal.returns
returns c =
    let kind : take 6 c.put.new.into ≡ take 0 c.args.into.now ++ arp_kind = c.put.ensures 6 (first_of (omega arith, search rules, grind (arith, common_steps))) in
    let op : take 8 c.put-2.new.into ≡ take 6 c.put.new.into ++ to_be_bytes w16 c.args.arp.now.op = rw c.to_be_bytes.ensures at (c.put-2.ensures 8 (rw c.to_be_bytes.ensures refl)) in
    let sha : take 14 c.put-3.new.into ≡ take 8 c.put-2.new.into ++ c.args.arp.now.sha.0 = c.put-3.ensures 14 (first_of (omega arith, search rules, grind (arith, common_steps))) in
    let spa : take 18 c.put-4.new.into ≡ take 14 c.put-3.new.into ++ to_be_bytes w32 c.args.arp.now.spa = rw c.to_be_bytes-2.ensures at (c.put-4.ensures 18 (rw c.to_be_bytes-2.ensures refl)) in
    let tha : take 24 c.put-5.new.into ≡ take 18 c.put-4.new.into ++ c.args.arp.now.tha.0 = c.put-5.ensures 24 (first_of (omega arith, search rules, grind (arith, common_steps))) in
    let tpa : take 28 c.put-6.new.into ≡ take 24 c.put-5.new.into ++ to_be_bytes w32 c.args.arp.now.tpa = rw c.to_be_bytes-3.ensures at (c.put-6.ensures 28 (rw c.to_be_bytes-3.ensures refl)) in
    let size : length c.put-6.new.into ≡ 28 = first_of (omega arith, search rules, grind (arith, common_steps)) in
    packet_of c.args.into.now c.put.new.into c.put-2.new.into c.put-3.new.into c.put-4.new.into c.put-5.new.into c.put-6.new.into arp_kind (to_be_bytes w16 c.args.arp.now.op) c.args.arp.now.sha.0 (to_be_bytes w32 c.args.arp.now.spa) c.args.arp.now.tha.0 (to_be_bytes w32 c.args.arp.now.tpa) kind op sha spa tha tpa size
