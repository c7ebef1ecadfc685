pub mod PageRequests
