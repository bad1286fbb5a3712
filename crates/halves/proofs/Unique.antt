-- The contract of every function that other crates can call is firm: it asks nothing and is an equation of the answer.
-- Assumes nothing.
use mathlib.Core.Path.{refl}
use Rattle.answers.specs.Firm.{Firm}
use Rattle.answers.proofs.Firm.{equation}
use Rattle.halves.proofs.seated.Kinds as seated
use Rattle.halves.proofs.seated.Reads as seated_reads
use Rattle.halves.proofs.named.Kinds as named
use Rattle.halves.proofs.named.Reads as named_reads
use Rattle.halves.proofs.id_of.Kinds as id_of
use Rattle.halves.proofs.id_of.Reads as id_of_reads
use Rattle.halves.proofs.is_peers.Kinds as is_peers
use Rattle.halves.proofs.is_peers.Reads as is_peers_reads
use Rattle.halves.proofs.place_of.Kinds as place_of
use Rattle.halves.proofs.place_of.Reads as place_of_reads

pub seated_firm : Firm 0 seated.ps seated.r seated_reads.Asked seated_reads.Post
seated_firm = equation refl

pub named_firm : Firm 0 named.ps named.r named_reads.Asked named_reads.Post
named_firm = equation refl

pub id_of_firm : Firm 0 id_of.ps id_of.r id_of_reads.Asked id_of_reads.Post
id_of_firm = equation refl

pub is_peers_firm : Firm 0 is_peers.ps is_peers.r is_peers_reads.Asked is_peers_reads.Post
is_peers_firm = equation refl

pub place_of_firm : Firm 0 place_of.ps place_of.r place_of_reads.Asked place_of_reads.Post
place_of_firm = equation refl
