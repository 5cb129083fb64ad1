use Rattle.fetch_serve.proofs.Appending.{bytes_are, on_ok}
use Rattle.fetch_serve.proofs.fetching.append_bytes.Goals as goal

pub returns : goal.returns
returns c =
    on_ok c.append_line-2.result _ _ (bytes_are c.args.out.now.items c.append_line.new.out.items c.append_bands.new.out.items c.append_line-2.new.out.items c.args.pack.now c.in_ok-append_line.ensures c.in_ok-append_bands.ensures) c.append_line-2.ensures
