use Rattle.std.proofs.Common.{◌≡◌, ◌++◌, length, take, rules, refl, arith}
use Rattle.std.specs.Int.{w16, to_be_bytes}
use Rattle.std.proofs.lemmas.Grind.{common_steps}
use Rattle.link_codec.proofs.Frames.{header_of}
use Rattle.link_codec.proofs.ethernet.write_eth.Goals as goal

pub returns : goal.returns
returns c =
    let first : take 6 c.put.new.into ≡ take 0 c.args.into.now ++ c.args.dst.now.0 = c.put.ensures 6 (first_of (omega arith, search rules, grind (arith, common_steps))) in
    let second : take 12 c.put-2.new.into ≡ take 6 c.put.new.into ++ c.args.src.now.0 = c.put-2.ensures 12 (first_of (omega arith, search rules, grind (arith, common_steps))) in
    let third : take 14 c.put-3.new.into ≡ take 12 c.put-2.new.into ++ to_be_bytes w16 c.args.ethertype = rw c.to_be_bytes.ensures at (c.put-3.ensures 14 (rw c.to_be_bytes.ensures refl)) in
    let size : length c.put-3.new.into ≡ 14 = first_of (omega arith, search rules, grind (arith, common_steps)) in
    header_of c.args.into.now c.put.new.into c.put-2.new.into c.put-3.new.into c.args.dst.now.0 c.args.src.now.0 _ first second third size
