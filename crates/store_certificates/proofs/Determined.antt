-- Every public function of this crate has one outcome: its contract leaves nothing open, not even where in memory the certificate that is
-- returned stands. Read before: specs/Determined.antt of base.
use Prim.Native.Nat.{ℕ}
use mathlib.Core.Path.{◌≡◌, refl, sym, ◌∙◌}
use mathlib.Core.List.{List}
use denote.Ref.{Bor}
use Rattle.base.specs.Determined.{Determined, DeterminedAddress}
use Rattle.base.proofs.Lending.{part_of_same}
use Rattle.store_certificates.specs.Certificates.{located, CertificatePart}
use Rattle.store_certificates.specs.declared.Located.{Located}
use Rattle.store_certificates.specs.declared.Located.TheVariants.{Card, Desk, Missing, Refused}
use Rattle.store_certificates.proofs.locate.Kinds as locate-kinds
use Rattle.store_certificates.proofs.locate.Reads as locate-reads
use Rattle.store_certificates.proofs.named_certificate.Kinds as named-certificate-kinds
use Rattle.store_certificates.proofs.named_certificate.Reads as named-certificate-reads

pub locate_determined : Determined locate-kinds.ps locate-kinds.r locate-reads.Post
locate_determined κs a e f p q i = ((p ∙ sym q) i, e.1)

-- two parts that are returned for one answer are the same part
same : (l : Located) (n : ℕ) (card desk r t : Bor (List ℕ)) → CertificatePart l n card desk r → CertificatePart l n card desk t → (r.now ≡ t.now) × (r.ref_ptr ≡ t.ref_ptr)
same (Card s) n card desk r t p q = part_of_same card s.start s.length r t p.1 q.1
same (Desk s) n card desk r t p q = part_of_same desk s.start s.length r t p.1 q.1
same Missing n card desk r t p q = part_of_same card 0 0 r t p.1 q.1
same Refused n card desk r t p q = part_of_same card 0 0 r t p.1 q.1

pub named-certificate_determined : DeterminedAddress named-certificate-kinds.ps named-certificate-reads.Post
named-certificate_determined κs a e f p q =
    let s = same (located a.0.now a.1.0.now a.1.1.0) a.1.1.0 a.0 a.1.0 e.0 f.0 p q in (s.0, s.1, refl)
