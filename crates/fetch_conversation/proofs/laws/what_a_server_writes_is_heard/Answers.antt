use Rattle.fetch_conversation.proofs.Writing.{written_listing, written_pack}
use Rattle.fetch_conversation.proofs.laws.what_a_server_writes_is_heard.Goals as goal

pub returns-clause-listed : goal.returns-clause-listed
returns-clause-listed c = written_listing

pub returns-clause-received : goal.returns-clause-received
returns-clause-received c = λ bound g t a answers contents rest h. written_pack bound t g a answers contents rest h
