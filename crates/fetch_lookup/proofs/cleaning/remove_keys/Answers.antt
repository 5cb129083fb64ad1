use Rattle.fetch_lookup.proofs.SavedParts.{cleaned-by}
use Rattle.fetch_lookup.proofs.cleaning.remove_keys.Goals as goal

pub returns : goal.returns
returns c = cleaned-by c.args.index _ _ _ _ _ _ c.remove_key.ensures c.remove_key-2.ensures c.remove_key-3.ensures c.remove_key-4.ensures c.remove_key-5.ensures
