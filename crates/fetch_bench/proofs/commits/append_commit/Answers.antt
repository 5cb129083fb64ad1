use Rattle.fetch_bench.proofs.Texts.{line_is, text_grows}
use Rattle.std.proofs.Common.{codes, decimal}
use Rattle.fetch_base.specs.Digits.{hex_of}
use Rattle.fetch_bench.specs.Commits.{signature}
use Rattle.fetch_bench.proofs.commits.append_commit.Goals as goal

pub returns : goal.returns
returns c =
    let number = c.args.number in
    text_grows _ _ _ _ _ _ c.args.tree.now _ number c.requires
    (line_is (codes "tree ") (hex_of c.args.tree.now) _ _ _ _ c.in_ok-extend_from_slice.ensures.items c.in_ok-append_hex.ensures.ok c.in_ok-extend_from_slice-2.ensures.items)
    c.in_ok-append_parent.ensures
    (line_is (codes "author ") (signature number) _ _ _ _ c.in_ok-extend_from_slice-3.ensures.items c.in_ok-append_signature.ensures c.in_ok-extend_from_slice-4.ensures.items)
    (line_is (codes "committer ") (signature number) _ _ _ _ c.in_ok-extend_from_slice-5.ensures.items c.in_ok-append_signature-2.ensures c.in_ok-extend_from_slice-6.ensures.items)
    (line_is (codes "\n") (decimal number) _ _ _ _ c.in_ok-extend_from_slice-7.ensures.items c.in_ok-append_number.ensures.ok c.in_ok-extend_from_slice-8.ensures.items)
