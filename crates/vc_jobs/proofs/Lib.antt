mod RingLemmas
mod Holding
